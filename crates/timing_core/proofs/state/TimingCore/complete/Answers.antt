use Rattle.std.proofs.Common.{ℕ, ap, ◌∙◌, subst}
use Rattle.timing_side.specs.Complete.{completes, completed_phase, timing_complete}
use Rattle.timing_core.specs.CoreStandsFor.{CoreStandsFor}
use Rattle.timing_core.proofs.state.TimingCore.complete.Goals as goal

pub returns-clause-kept : goal.returns-clause-kept
unfolding timing_complete
returns-clause-kept c = λ s t k small.
    subst (λ (until : ℕ). CoreStandsFor s (completed_phase (completes until t.slots) t).timing c.complete_until.new.self) k.cycle
    (c.complete_until.ensures.kept s t k small)

pub returns-clause-orders : goal.returns-clause-orders
unfolding timing_complete
returns-clause-orders c = λ s t k small.
    c.complete_until.ensures.orders s t k small ∙ ap (λ (until : ℕ). (completed_phase (completes until t.slots) t).orders) k.cycle
