use Rattle.std.proofs.Common.{◌≡◌, true, false, ap, sym, ◌∙◌, subst}
use Rattle.timing_side.specs.Timing.{Phase}
use Rattle.timing_core.specs.CoreStandsFor.{CoreStandsFor}
use Rattle.inorder_model.proofs.Relations.{issue_by}
use Rattle.inorder_model.proofs.timing.InorderTimingCore.replay_or_issue.Goals as goal

pub returns-then-wants_time-clause-kept : goal.returns-then-wants_time-clause-kept
returns-then-wants_time-clause-kept c = λ s l h small.
    let on : c.wants_time.result ≡ true = c.if-wants_time.true in
    let same = issue_by s l true (sym (c.wants_time.ensures.wanted s l h) ∙ on) in
    subst (λ (p : Phase). CoreStandsFor s p.timing c.replay.new.self) (sym same) (c.replay.ensures.kept s l.timing h.core small)

pub returns-then-wants_time-clause-orders : goal.returns-then-wants_time-clause-orders
returns-then-wants_time-clause-orders c = λ s l h small.
    let on : c.wants_time.result ≡ true = c.if-wants_time.true in
    let same = issue_by s l true (sym (c.wants_time.ensures.wanted s l h) ∙ on) in
    c.replay.ensures.order s l.timing h.core small ∙ ap (λ (p : Phase). p.orders) (sym same)

pub returns-clause-kept : goal.returns-clause-kept
returns-clause-kept c = λ s l h small.
    let off : c.wants_time.result ≡ false = c.if-wants_time.false in
    let same = issue_by s l false (sym (c.wants_time.ensures.wanted s l h) ∙ off) in
    subst (λ (p : Phase). CoreStandsFor s p.timing c.issue_youngest.new.self.core) (sym same) (c.issue_youngest.ensures.kept s l h small)

pub returns-clause-orders : goal.returns-clause-orders
returns-clause-orders c = λ s l h small.
    let off : c.wants_time.result ≡ false = c.if-wants_time.false in
    let same = issue_by s l false (sym (c.wants_time.ensures.wanted s l h) ∙ off) in
    c.none.ensures.none ∙ ap (λ (p : Phase). p.orders) (sym same)
