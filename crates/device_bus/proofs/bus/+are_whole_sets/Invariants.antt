use Rattle.std.proofs.Common.{length}
use Rattle.device_bus.proofs.bus.+are_whole_sets.Given as goal

abbrev pub decreases-are_whole_sets : goal.decreases-are_whole_sets
decreases-are_whole_sets g l = length l.devices.now
