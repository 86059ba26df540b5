use Rattle.std.proofs.Common.{[], ap, ◌∙◌}
use Rattle.mono_model.specs.Demand.{commit_order}
use Rattle.timing_side.specs.Commit.{ending_orders}
use Rattle.timing_core.specs.Orders.{and_then}
use Rattle.timing_core.proofs.state.TimingCore.commit_one.Goals as goal

pub returns-clause-kept : goal.returns-clause-kept
returns-clause-kept c = λ s t k small. c.leave_once-committed.ensures.kept s t k small

pub returns-clause-orders : goal.returns-clause-orders
returns-clause-orders c = λ s t k small.
    let kept = c.leave_once-committed.ensures.kept s t k small in
    let left = c.leave_once-committed.ensures.left s t k small in
    let ending = c.leave_once-committed.ensures.ending s t k small in
    c.in_turn.ensures.orders
    ∙ ap (and_then c.ending_order.result) (c.commit_order.ensures.order [])
    ∙ c.ending_order.ensures.order (commit_order c.leave_once-committed.result.left c.leave_once-committed.new.self.to_commit [])
    ∙ (λ i. ending_orders (ending i) (kept.to_commit i) (commit_order (left i) (kept.to_commit i) []))
