-- The third phase of a cycle: Memory, whose record goes on to Write once its access is over
-- (Hennessy and Patterson, Computer Architecture, appendix C.1, memory access). Write is empty then.
use Rattle.std.specs.Prelude.{ℕ, nat_le, if◌then◌else◌, Option, Some, None}
use Rattle.inorder_machine.specs.InorderMachine.{InorderMachine}

abbrev pub went_on : ℕ → Option ℕ → Option ℕ
went_on cycle None = None
went_on cycle (Some e) = if nat_le e cycle then None else Some e

unfoldable pub inorder_memory : InorderMachine → InorderMachine
inorder_memory l = record l { memory = went_on l.machine.cycle l.memory }
