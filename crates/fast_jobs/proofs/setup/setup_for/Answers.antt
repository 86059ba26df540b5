use Rattle.fast_jobs.proofs.Setups.{is_setup-setup_for}
use Rattle.fast_jobs.proofs.setup.setup_for.Goals as goal

pub returns-clause-sound : goal.returns-clause-sound
returns-clause-sound c = is_setup-setup_for c.args.params c.args.options.now c.args.image c.args.input c.requires.in_range c.requires.sound c.requires.ranges c.requires.input
