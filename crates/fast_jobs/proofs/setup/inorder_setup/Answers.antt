use Rattle.std.proofs.Common.{refl}
use Rattle.fast_jobs.specs.Stages.{inorder_params}
use Rattle.fast_jobs.proofs.Setups.{IsInorder-inorder_setup}
use Rattle.fast_jobs.proofs.setup.inorder_setup.Goals as goal

pub returns-clause-setup : goal.returns-clause-setup
unfolding inorder_params
returns-clause-setup c = refl

pub returns-clause-sound : goal.returns-clause-sound
unfolding inorder_params
returns-clause-sound c = IsInorder-inorder_setup c.args.setup c.requires.sound
