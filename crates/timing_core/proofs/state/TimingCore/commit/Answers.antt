use Rattle.std.proofs.Common.{ℕ, ap, ◌∙◌, subst}
use Rattle.mono_model.specs.declared.params.Params.{Params}
use Rattle.timing_side.specs.Commit.{commits, committed_phase, timing_commit}
use Rattle.timing_core.specs.CoreStandsFor.{CoreStandsFor}
use Rattle.timing_core.proofs.state.TimingCore.commit.Goals as goal

pub returns-clause-kept : goal.returns-clause-kept
unfolding timing_commit
returns-clause-kept c = λ s t k small.
    subst (λ (most : ℕ). CoreStandsFor s (committed_phase (commits s most 0 t)).timing c.commit_at_most.new.self) (ap (λ (p : Params). p.core_commit) k.params)
    (c.commit_at_most.ensures.kept s t k small)

pub returns-clause-orders : goal.returns-clause-orders
unfolding timing_commit
returns-clause-orders c = λ s t k small.
    c.commit_at_most.ensures.orders s t k small ∙ ap (λ (p : Params). (committed_phase (commits s p.core_commit 0 t)).orders) k.params
