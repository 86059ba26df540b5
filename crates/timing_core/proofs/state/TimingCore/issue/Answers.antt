use Rattle.std.proofs.Common.{◌≡◌, ◌∙◌, true, false, ap, sym, subst}
use Rattle.timing_side.specs.Timing.{Phase}
use Rattle.timing_core.specs.CoreStandsFor.{CoreStandsFor}
use Rattle.timing_core.proofs.Issuing.{issues, none_issues}
use Rattle.timing_core.proofs.state.TimingCore.issue.Goals as goal

pub returns-clause-kept : goal.returns-clause-kept
returns-clause-kept c = λ s t k small.
    let off : c.wants_time.result ≡ false = c.if-wants_time.false in
    subst (λ (p : Phase). CoreStandsFor s p.timing c.issue_all.new.self) (sym (issues s t false (sym (c.wants_time.ensures.wanted s t k) ∙ off)))
    (c.issue_all.ensures.kept s t k small)

pub returns-clause-orders : goal.returns-clause-orders
returns-clause-orders c = λ s t k small.
    let off : c.wants_time.result ≡ false = c.if-wants_time.false in
    c.none-2.ensures.none ∙ ap (λ (p : Phase). p.orders) (sym (issues s t false (sym (c.wants_time.ensures.wanted s t k) ∙ off)))

pub returns-then-wants_time-clause-kept : goal.returns-then-wants_time-clause-kept
returns-then-wants_time-clause-kept c = λ s t k small.
    let on : c.wants_time.result ≡ true = c.if-wants_time.true in
    subst (λ (p : Phase). CoreStandsFor s p.timing c.replay.new.self) (sym (issues s t true (sym (c.wants_time.ensures.wanted s t k) ∙ on)))
    (c.replay.ensures.kept s t k small)

pub returns-then-wants_time-clause-orders : goal.returns-then-wants_time-clause-orders
returns-then-wants_time-clause-orders c = λ s t k small.
    let on : c.wants_time.result ≡ true = c.if-wants_time.true in
    c.replay.ensures.order s t k small ∙ ap (λ (p : Phase). p.orders) (sym (issues s t true (sym (c.wants_time.ensures.wanted s t k) ∙ on)))

pub returns-then-waiting-eq0 : goal.returns-then-waiting-eq0
returns-then-waiting-eq0 c = record {
  kept = λ s t k small. (none_issues s t c.args.self.now k small.order (sym c.waiting.ensures.count ∙ c.if-waiting-eq0.true)).0;
  orders = λ s t k small. c.none.ensures.none ∙ sym (none_issues s t c.args.self.now k small.order (sym c.waiting.ensures.count ∙ c.if-waiting-eq0.true)).1;
}
