use Rattle.std.proofs.Common.{ℕ, Option, sym, subst}
use Rattle.trace_ring.specs.Ring.{Follows}
use Rattle.trace_ring.specs.Trial.{trial}
use Rattle.trace_ring.proofs.Trials.{goes_on}
use Rattle.trace_ring.proofs.tests.push_first.Goals as goal

pub expect_push-requires-clause-follows : goal.expect_push-requires-clause-follows
expect_push-requires-clause-follows g c =
    subst (λ (last : Option (ℕ × ℕ)). Follows trial last 0 c.loop-number.number) (sym c.loop-number.invariant.1) (goes_on c.loop-number.number)
