-- The state of the in-order machine's timing side: that of the monolithic machine's, with the cycle in which the slot in
-- Memory goes on to Write. Of its slots, the one in Decode waits, the one in Execute executes, and those in Memory and
-- Write are done.
use Rattle.std.specs.Prelude.{ℕ, ◌+◌, nat_lt, if◌then◌else◌, Bool, Option, Some, None, List, [], ◌∷◌}
use Rattle.rollback_cmds.specs.declared.order.Order.{Order}
use Rattle.reorder_buffer.specs.declared.slot.Slot.{Slot}
use Rattle.reorder_buffer.specs.declared.slot.SlotState.{SlotState}
use Rattle.reorder_buffer.specs.declared.slot.SlotState.TheVariants.{Waiting, Until, Done}
use Rattle.timing_side.specs.Slots.{is_done_state}
use Rattle.timing_side.specs.Timing.{Timing, timing_start, Phase}
use Rattle.inorder_machine.specs.InorderMachine.{memory_count, memory_behind}

pub record InorderTiming : Type 0 where
  pub timing : Timing
  pub memory : Option ℕ

abbrev pub inorder_timing_start : InorderTiming
inorder_timing_start = record { timing = timing_start; memory = None }

-- The slot in Execute, with the cycle from which on it may go on to Memory.
pub record Executing : Type 0 where
  pub slot : Slot
  pub from : ℕ

abbrev pub execute_by : Slot → SlotState → Option Executing → Option Executing
execute_by slot Waiting other = other
execute_by slot (Until e) other = Some (record { slot = slot; from = e })
execute_by slot Done other = other

abbrev pub in_execute : List Slot → Option Executing
in_execute [] = None
in_execute (slot ∷ rest) = execute_by slot slot.state (in_execute rest)

-- how many slots Memory and Write have
abbrev pub done_count : List Slot → ℕ
done_count [] = 0
done_count (slot ∷ rest) = (if is_done_state slot.state then 1 else 0) + done_count rest

-- Write has a slot: the oldest
abbrev pub has_write : InorderTiming → Bool
has_write l = nat_lt (memory_count l.memory) (done_count l.timing.slots)

-- A phase: the state behind it, and the orders that it makes, the newest first.
pub record InorderPhase : Type 0 where
  pub inorder : InorderTiming
  pub orders : List Order

-- a phase of the monolithic machine's timing side, which may flush all slots
abbrev pub flushing : Phase → Option ℕ → InorderPhase
flushing p memory = record { inorder = record { timing = p.timing; memory = memory_behind p.timing.slots memory }; orders = p.orders }

-- one that leaves Memory as it is
abbrev pub keeping : Phase → Option ℕ → InorderPhase
keeping p memory = record { inorder = record { timing = p.timing; memory = memory }; orders = p.orders }
