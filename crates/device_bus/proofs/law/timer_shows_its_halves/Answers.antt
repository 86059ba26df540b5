use Rattle.device_bus.proofs.Driver.{compare_stored-both}
use Rattle.device_bus.proofs.law.timer_shows_its_halves.Goals as goal

pub returns-clause-compare : goal.returns-clause-compare
returns-clause-compare c = compare_stored-both
