use Rattle.std.proofs.Common.{ℕ, Option, ap, ◌∙◌}
use Rattle.inorder_machine.specs.InorderMachine.{memory_behind}
use Rattle.inorder_side.specs.Phases.{timing_inorder_write}
use Rattle.inorder_model.specs.Stages.{write_phase}
use Rattle.inorder_model.proofs.Relations.{flushed}
use Rattle.inorder_model.proofs.timing.InorderTimingCore.write.Goals as goal

pub returns-clause-kept : goal.returns-clause-kept
unfolding timing_inorder_write
returns-clause-kept c = λ s l h small.
    let core = c.commit_written-orders.new.self.core in
    flushed s (write_phase s l) l.memory core c.clear_memory.new.self (c.commit_written-orders.ensures.kept s l h small)
    c.clear_memory.ensures.core
    (c.clear_memory.ensures.behind ∙ ap (λ (m : Option ℕ). memory_behind core.flight.slots m) (c.commit_written-orders.ensures.memory ∙ h.memory))

pub returns-clause-orders : goal.returns-clause-orders
unfolding timing_inorder_write
returns-clause-orders c = λ s l h small. c.commit_written-orders.ensures.orders s l h small
