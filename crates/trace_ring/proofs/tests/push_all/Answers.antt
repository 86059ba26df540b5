use Rattle.std.proofs.Common.{ℕ, Option, sym, subst}
use Rattle.trace_ring.specs.Ring.{Follows}
use Rattle.trace_ring.specs.Trial.{trial}
use Rattle.trace_ring.proofs.Trials.{goes_on}
use Rattle.trace_ring.proofs.tests.push_all.Goals as goal

pub push-requires-clause-follows : goal.push-requires-clause-follows
push-requires-clause-follows g c =
    subst (λ (last : Option (ℕ × ℕ)). Follows trial last 0 c.loop.number) (sym c.loop.invariant.1) (goes_on c.loop.number)
