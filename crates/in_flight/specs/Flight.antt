-- Which of the instructions in flight waits for nothing but a unit (Hennessy and Patterson, Computer Architecture,
-- section 3.6, issue and execute).
use Rattle.std.specs.Prelude.{ℕ, ◌&&◌, ◌||◌, Bool, true, false, Option, Some, None, List, reverse, take, slice_get}
use Rattle.reorder_buffer.specs.declared.slot.Slot.{Slot}
use Rattle.reorder_buffer.specs.declared.slot.SlotState.{SlotState}
use Rattle.reorder_buffer.specs.declared.slot.SlotState.TheVariants.{Waiting, Until, Done}
use Rattle.reservation_stations.specs.declared.sought.Sought.{Sought}
use Rattle.reservation_stations.specs.declared.sought.Sought.TheVariants.{Ready, Executing}
use Rattle.mono_model.specs.Found.{Found, first_source, second_source}
use Rattle.mono_model.specs.Window.{is_register}
use Rattle.timing_side.specs.Slots.{is_waiting_state}
use Rattle.timing_side.specs.Issue.{has_operands}

-- the slots in front of a place, the youngest first
abbrev pub older_at : List Slot → ℕ → List Slot
older_at slots place = reverse (take place slots)

-- whether a slot waits and has its operands
abbrev pub may_start : List Slot → Option Slot → Bool
may_start older None = false
may_start older (Some slot) = is_waiting_state slot.state && has_operands older slot

abbrev pub may_start_at : List Slot → ℕ → Bool
may_start_at slots place = may_start (older_at slots place) (slice_get slots place)

-- whether a source is the register that is written, and whether an instruction has such a source
abbrev pub is_written : Option ℕ → Option ℕ → Bool
is_written None destination = false
is_written (Some register) destination = is_register register destination

abbrev pub reads_from : Found → Option ℕ → Bool
reads_from found destination = is_written (first_source found) destination || is_written (second_source found) destination

-- it executes, until some cycle
abbrev pub IsExecuting : SlotState → Type 0
IsExecuting Waiting = ⊥
IsExecuting (Until cycle) = Unit {0}
IsExecuting Done = ⊥

-- whether a slot executes
abbrev pub is_executing_state : SlotState → Bool
is_executing_state Waiting = false
is_executing_state (Until cycle) = true
is_executing_state Done = false

abbrev pub executes : Option Slot → Bool
executes None = false
executes (Some slot) = is_executing_state slot.state

abbrev pub executes_at : List Slot → ℕ → Bool
executes_at slots place = executes (slice_get slots place)

-- whether the slot at a place is one that a search looks for
abbrev pub is_sought_at : Sought → List Slot → ℕ → Bool
is_sought_at Ready = may_start_at
is_sought_at Executing = executes_at
