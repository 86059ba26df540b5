use Rattle.std.proofs.Common.{ℕ, Option, ap, ◌∙◌}
use Rattle.timing_side.specs.Interrupt.{timing_interrupt}
use Rattle.inorder_machine.specs.InorderMachine.{memory_behind}
use Rattle.inorder_side.specs.Phases.{timing_inorder_interrupt}
use Rattle.inorder_model.proofs.Relations.{flushed}
use Rattle.inorder_model.proofs.timing.InorderTimingCore.interrupt.Goals as goal

pub returns-clause-kept : goal.returns-clause-kept
unfolding timing_inorder_interrupt
returns-clause-kept c = λ s l h small.
    let core = c.interrupt-orders.new.self in
    flushed s (timing_interrupt l.timing) l.memory core c.clear_memory.new.self (c.interrupt-orders.ensures.kept s l.timing h.core small)
    c.clear_memory.ensures.core
    (c.clear_memory.ensures.behind ∙ ap (λ (m : Option ℕ). memory_behind core.flight.slots m) h.memory)

pub returns-clause-orders : goal.returns-clause-orders
unfolding timing_inorder_interrupt
returns-clause-orders c = λ s l h small. c.interrupt-orders.ensures.orders s l.timing h.core small
