use Rattle.device_bus.proofs.Driver.{received-all}
use Rattle.device_bus.proofs.law.console_hands_over_the_input.Goals as goal

pub returns : goal.returns
returns c = record { in_order = received-all }
