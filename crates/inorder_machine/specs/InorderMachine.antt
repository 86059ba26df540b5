-- The state of the in-order machine: a pipeline of five stages, Fetch, Decode, Execute, Memory and Write, of which each
-- behind Fetch has at most one instruction (Hennessy and Patterson, Computer Architecture, appendix C.1 and C.3).
use Rattle.std.specs.Prelude.{ℕ, ◌+◌, nat_lt, if◌then◌else◌, Bool, Option, Some, None, List, [], ◌∷◌}
use Rattle.mono_model.specs.declared.setup.Setup.{Setup}
use Rattle.mono_model.specs.Result.{Result}
use Rattle.mono_model.specs.Window.{Record, Stage, waiting, until, done, is_done_stage}
use Rattle.mono_model.specs.Machine.{Machine, machine_start}

-- It is the state of the monolithic machine. Of the records in its window, the one in Decode waits, the one in Execute
-- executes, and those in Memory and Write are done.
pub record InorderMachine : Type 0 where
  pub machine : Machine
  -- the cycle in which the record in Memory, the youngest that is done, goes on to Write; none where Memory is empty
  pub memory : Option ℕ

unfoldable pub inorder_start : Setup → InorderMachine
inorder_start s = record { machine = machine_start s; memory = None }

-- The record in Execute, with the cycle from which on it may go on to Memory, and its result.
pub record Executing : Type 0 where
  pub instruction : Record
  pub from : ℕ
  pub result : Result

abbrev pub execute_by : Record → Stage → Option Executing → Option Executing
execute_by rec waiting other = other
execute_by rec (until e r) other = Some (record { instruction = rec; from = e; result = r })
execute_by rec (done r) other = other

abbrev pub in_execute : List Record → Option Executing
in_execute [] = None
in_execute (rec ∷ rest) = execute_by rec rec.stage (in_execute rest)

-- how many records Memory and Write have
abbrev pub done_count : List Record → ℕ
done_count [] = 0
done_count (rec ∷ rest) = (if is_done_stage rec.stage then 1 else 0) + done_count rest

abbrev pub memory_count : Option ℕ → ℕ
memory_count None = 0
memory_count (Some e) = 1

-- Write has a record: the oldest
abbrev pub has_write : InorderMachine → Bool
has_write l = nat_lt (memory_count l.memory) (done_count l.machine.window)

-- Memory behind a phase that may flush all of the window: nothing where nothing is under way
abbrev pub memory_behind : {A : Type 0} → List A → Option ℕ → Option ℕ
memory_behind [] memory = None
memory_behind (oldest ∷ rest) memory = memory

abbrev pub inorder_behind : Machine → Option ℕ → InorderMachine
inorder_behind m memory = record { machine = m; memory = memory_behind m.window memory }
