use Rattle.std.proofs.Common.{◌≡◌}
use Rattle.trace_ring.specs.Trial.{trial, before}
use Rattle.trace_ring.proofs.tests.push_first.Given as goal

abbrev pub invariant-loop-number : goal.invariant-loop-number
invariant-loop-number g l = (l.func.setup ≡ trial) × (l.func.last ≡ before l.number)
