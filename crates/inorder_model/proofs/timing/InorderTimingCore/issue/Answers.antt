use Rattle.std.proofs.Common.{ℕ, Option, ap, ◌∙◌}
use Rattle.inorder_machine.specs.InorderMachine.{memory_behind}
use Rattle.inorder_side.specs.Issue.{issue_phase, timing_inorder_issue}
use Rattle.inorder_model.proofs.Relations.{flushed}
use Rattle.inorder_model.proofs.timing.InorderTimingCore.issue.Goals as goal

pub returns-clause-kept : goal.returns-clause-kept
unfolding timing_inorder_issue
returns-clause-kept c = λ s l h small.
    let core = c.replay_or_issue-orders.new.self.core in
    flushed s (issue_phase s l) l.memory core c.clear_memory.new.self (c.replay_or_issue-orders.ensures.kept s l h small)
    c.clear_memory.ensures.core
    (c.clear_memory.ensures.behind ∙ ap (λ (m : Option ℕ). memory_behind core.flight.slots m) (c.replay_or_issue-orders.ensures.memory ∙ h.memory))

pub returns-clause-orders : goal.returns-clause-orders
unfolding timing_inorder_issue
returns-clause-orders c = λ s l h small. c.replay_or_issue-orders.ensures.orders s l h small
