use Rattle.std.proofs.Common.{refl}
use Rattle.cycle_watch.proofs.Stacked.{no_stack}
use Rattle.cycle_watch.proofs.stack.Stacking.new.Goals as goal

pub returns-clause-counted : goal.returns-clause-counted
returns-clause-counted g c = no_stack c.args.pipeline c.args.setup.now.params _ refl refl refl refl refl
