use Rattle.std.proofs.Common.{refl}
use lib.Count.{ones}
use Rattle.mono_model.specs.Setup.{are_params}
use Rattle.mono_model.proofs.params.Params.plain.Goals as goal

pub returns-clause-in_range : goal.returns-clause-in_range
unfolding are_params ones
returns-clause-in_range c = refl
