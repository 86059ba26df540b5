use Rattle.std.proofs.Common.{ℕ, Option, sym, subst}
use Rattle.trace_ring.specs.Ring.{Follows}
use Rattle.trace_ring.specs.Trial.{trial}
use Rattle.trace_ring.proofs.Trials.{goes_to_one}
use Rattle.trace_ring.proofs.tests.fill.Goals as goal

pub expect_push-requires-clause-follows : goal.expect_push-requires-clause-follows
expect_push-requires-clause-follows g c =
    subst (λ (last : Option (ℕ × ℕ)). Follows trial last 1 1) (sym c.push_first.ensures.last) (goes_to_one 13)
