-- The first two phases of a cycle: the timer interrupt, and Write, whose record commits. Both are the phases of the
-- monolithic machine, of which commit lets one record leave, where Write has one.
use Rattle.std.specs.Prelude.{ℕ, if◌then◌else◌}
use Rattle.mono_model.specs.declared.setup.Setup.{Setup}
use Rattle.mono_model.specs.Interrupt.{interrupt_phase}
use Rattle.mono_model.specs.Commit.{Committed, commits}
use Rattle.inorder_machine.specs.InorderMachine.{InorderMachine, has_write, inorder_behind}

unfoldable pub inorder_interrupt : InorderMachine → InorderMachine
inorder_interrupt l = inorder_behind (interrupt_phase l.machine) l.memory

-- how many records may leave
abbrev pub write_width : InorderMachine → ℕ
write_width l = if has_write l then 1 else 0

unfoldable pub inorder_commit : Setup → InorderMachine → Committed
inorder_commit s l = commits s (write_width l) 0 l.machine

unfoldable pub inorder_write : Setup → InorderMachine → InorderMachine
inorder_write s l = inorder_behind (inorder_commit s l).machine l.memory
