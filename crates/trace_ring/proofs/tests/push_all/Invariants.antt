use Rattle.std.proofs.Common.{◌≡◌, ◌≤◌}
use Rattle.trace_ring.specs.Trial.{trial, before}
use Rattle.trace_ring.proofs.tests.push_all.Given as goal

abbrev pub invariant-loop : goal.invariant-loop
invariant-loop g l = (l.end.setup ≡ trial) × (l.end.last ≡ before l.number) × (l.number ≤ 5003)
