use Rattle.std.proofs.Common.{◌≡◌}
use Rattle.trace_ring.specs.Trial.{trial}
use Rattle.trace_ring.proofs.tests.push_orders.Given as goal

abbrev pub invariant-loop-place : goal.invariant-loop-place
invariant-loop-place g l = (l.end.setup ≡ trial) × (l.end.pushed ≡ l.place)
