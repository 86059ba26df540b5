use Rattle.std.proofs.Common.{◌≡◌, ◌≤◌}
use Rattle.trace_ring.specs.Trial.{trial}
use Rattle.trace_ring.proofs.tests.take_all.Given as goal

abbrev pub invariant-loop : goal.invariant-loop
invariant-loop g l = (l.number ≤ 5003) × (l.end.setup ≡ trial) × (l.end.pushed ≡ 0)
