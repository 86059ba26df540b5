use Rattle.std.proofs.Common.{◌≡◌, ℕ, ◌≤◌, ◌<◌, false, Bool, subst, IsTrue, IfSome, IfNone}
use Rattle.in_flight.proofs.Operands.{sought_there}
use Rattle.in_flight.proofs.flight.InFlight.first.Goals as goal

pub returns-clause-found : goal.returns-clause-found
returns-clause-found c =
    subst (λ (test : ℕ → Bool). IfSome c.first.result (λ place. IsTrue (test place)))
    (sought_there c.args.sought _ _ _ c.self.invariant.stations_are c.self.view_is)
    c.first.ensures.found

pub returns-clause-first : goal.returns-clause-first
returns-clause-first c =
    subst (λ (test : ℕ → Bool). IfSome c.first.result (λ place. (k : ℕ) → c.args.from ≤ k → k < place → test k ≡ false))
    (sought_there c.args.sought _ _ _ c.self.invariant.stations_are c.self.view_is)
    c.first.ensures.first

pub returns-clause-none : goal.returns-clause-none
returns-clause-none c =
    subst (λ (test : ℕ → Bool). IfNone c.first.result ((k : ℕ) → c.args.from ≤ k → test k ≡ false))
    (sought_there c.args.sought _ _ _ c.self.invariant.stations_are c.self.view_is)
    c.first.ensures.none
