use Rattle.device_bus.proofs.Numbers.{dev-changes}
use Rattle.device_bus.proofs.law.access_changes_at_most_one_number.Goals as goal

pub returns : goal.returns
returns c = record { one = dev-changes }
