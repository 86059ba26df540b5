-- The fifth phase of a cycle: issue, where the record in Decode goes on to Execute once that is empty and its operands
-- have values. It executes then, with the values that the records in Memory and Write forward to it
-- (Hennessy and Patterson, Computer Architecture, appendix C.2, data hazards and forwarding).
use Rattle.std.specs.Prelude.{ℕ, ◌+◌, ◌&&◌, nat_lt, if◌then◌else◌, Bool, true, false, is_none, Option, Some, None, List, [], ◌∷◌}
use Rattle.fsim_base.specs.declared.instruction.Class.{Class}
use Rattle.fsim_base.specs.declared.instruction.Class.TheVariants as class
use Rattle.mono_model.specs.declared.params.Params.{Params}
use Rattle.mono_model.specs.declared.setup.Setup.{Setup}
use Rattle.mono_model.specs.Result.{Result}
use Rattle.mono_model.specs.Window.{Record, Stage, waiting, until, done, class_at, is_waiting}
use Rattle.mono_model.specs.Machine.{Machine}
use Rattle.mono_model.specs.Issue.{latency_of, has_operands, ready_result, class_allows, wants_time_result, replayed}
use Rattle.inorder_machine.specs.InorderMachine.{InorderMachine, in_execute, inorder_behind}

-- it is in Decode, and was fetched in an earlier cycle
abbrev pub is_past_fetch : ℕ → Record → Bool
is_past_fetch cycle rec = is_waiting rec && nat_lt rec.since cycle

-- A load in Memory has no value yet: a younger record finds it as one that executes. The older records stand youngest
-- first, and where none of them is in Execute the youngest is the one in Memory.
abbrev pub is_load_class : Class → Bool
is_load_class class.Load = true
is_load_class other = false

abbrev pub valueless : ℕ → Stage → Stage
valueless e waiting = waiting
valueless e (until from r) = until from r
valueless e (done r) = until e r

abbrev pub found_by_younger : ℕ → Record → Record
found_by_younger e rec = if is_load_class (class_at rec) then record rec { stage = valueless e rec.stage } else rec

abbrev pub found_in_order : Option ℕ → List Record → List Record
found_in_order None older = older
found_in_order (Some e) [] = []
found_in_order (Some e) (rec ∷ older) = found_by_younger e rec ∷ older

-- what the record in Decode comes to
abbrev pub decoded_result : Setup → InorderMachine → List Record → Record → Result
decoded_result s l older rec = ready_result s l.machine.arch (found_in_order l.memory older) rec

-- It goes on where Execute is empty, each of its sources has a value, and its class allows it: a load of a device, a CSR
-- instruction and MRET only as the oldest. Other loads find all older stores done, since these are in Memory or Write.
abbrev pub may_issue : Setup → InorderMachine → List Record → Record → Bool
may_issue s l older rec =
    is_past_fetch l.machine.cycle rec
    && is_none (in_execute older)
    && has_operands l.machine.arch (found_in_order l.memory older) rec
    && class_allows (class_at rec) (decoded_result s l older rec).access (found_in_order l.memory older)

-- how many cycles a record stays in Execute: a load or a store computes its address there
abbrev pub execute_latency : Params → Class → ℕ
execute_latency p class.Alu = latency_of p class.Alu
execute_latency p class.Serial = latency_of p class.Serial
execute_latency p class.Mul = latency_of p class.Mul
execute_latency p class.Div = latency_of p class.Div
execute_latency p class.Load = 1
execute_latency p class.Store = 1

abbrev pub begun : Setup → InorderMachine → List Record → Record → Record
begun s l older rec =
    record rec { stage = until (l.machine.cycle + execute_latency s.params (class_at rec)) (decoded_result s l older rec) }

unfoldable pub issue_of : Setup → InorderMachine → List Record → Record → Record
issue_of s l older rec = if may_issue s l older rec then begun s l older rec else rec

-- The records from a place on, of which the youngest is the one in Decode, if there is one there; the older ones stand
-- youngest first.
unfoldable pub issue_from : Setup → InorderMachine → List Record → List Record → List Record
issue_from s l older [] = []
issue_from s l older (rec ∷ []) = issue_of s l older rec ∷ []
issue_from s l older (rec ∷ next ∷ rest) = rec ∷ issue_from s l (rec ∷ older) (next ∷ rest)

-- The oldest record, where it reads the time, has none and its sources have values, is sent back to fetch to be given this
-- cycle as its time.
abbrev pub wants_time_first : Setup → Machine → List Record → Bool
wants_time_first s m [] = false
wants_time_first s m (rec ∷ younger) =
    is_past_fetch m.cycle rec && has_operands m.arch [] rec && wants_time_result rec (ready_result s m.arch [] rec)

unfoldable pub inorder_wants_time : Setup → Machine → Bool
inorder_wants_time s m = wants_time_first s m m.window

abbrev pub issued : Setup → InorderMachine → Machine
issued s l = record l.machine { window = issue_from s l [] l.machine.window }

abbrev pub issue_machine : Setup → InorderMachine → Machine
issue_machine s l = if inorder_wants_time s l.machine then replayed l.machine else issued s l

unfoldable pub inorder_issue : Setup → InorderMachine → InorderMachine
inorder_issue s l = inorder_behind (issue_machine s l) l.memory
