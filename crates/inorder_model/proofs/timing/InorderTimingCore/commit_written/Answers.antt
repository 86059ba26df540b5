use Rattle.std.proofs.Common.{◌≡◌, ℕ, ap, sym, ◌∙◌, subst}
use Rattle.timing_side.specs.Timing.{Timing}
use Rattle.timing_side.specs.Commit.{commits, committed_phase}
use Rattle.timing_core.specs.CoreStandsFor.{CoreStandsFor}
use Rattle.inorder_side.specs.Phases.{write_width}
use Rattle.inorder_model.proofs.Relations.{one_leaves, none_leaves, none_written}
use Rattle.inorder_model.proofs.timing.InorderTimingCore.commit_written.Goals as goal

pub returns-then-has_write-clause-kept : goal.returns-then-has_write-clause-kept
returns-then-has_write-clause-kept c = λ s l h small.
    let width : 1 ≡ write_width l = one_leaves l (sym c.if-has_write.true ∙ c.has_write.ensures.write s l h) in
    subst (λ (most : ℕ). CoreStandsFor s (committed_phase (commits s most 0 l.timing)).timing c.commit_one.new.self) width (c.commit_one.ensures.kept s l.timing h.core small)

pub returns-then-has_write-clause-orders : goal.returns-then-has_write-clause-orders
returns-then-has_write-clause-orders c = λ s l h small.
    let width : 1 ≡ write_width l = one_leaves l (sym c.if-has_write.true ∙ c.has_write.ensures.write s l h) in
    c.commit_one.ensures.orders s l.timing h.core small ∙ ap (λ (most : ℕ). (committed_phase (commits s most 0 l.timing)).orders) width

pub returns-else-has_write-clause-kept : goal.returns-else-has_write-clause-kept
returns-else-has_write-clause-kept c = λ s l h small.
    let width : 0 ≡ write_width l = none_leaves l (sym c.if-has_write.false ∙ c.has_write.ensures.write s l h) in
    subst (λ (most : ℕ). CoreStandsFor s (committed_phase (commits s most 0 l.timing)).timing c.args.self.now.core) width (subst (λ (t : Timing). CoreStandsFor s t c.args.self.now.core) (sym (none_written s l.timing).0) h.core)

pub returns-else-has_write-clause-orders : goal.returns-else-has_write-clause-orders
returns-else-has_write-clause-orders c = λ s l h small.
    let width : 0 ≡ write_width l = none_leaves l (sym c.if-has_write.false ∙ c.has_write.ensures.write s l h) in
    c.none.ensures.none ∙ sym (none_written s l.timing).1 ∙ ap (λ (most : ℕ). (committed_phase (commits s most 0 l.timing)).orders) width
