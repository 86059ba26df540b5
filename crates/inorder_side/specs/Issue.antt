-- The last two phases of a cycle: issue, where the slot in Decode goes on to Execute, and fetch.
use Rattle.std.specs.Prelude.{ℕ, ◌+◌, ◌==◌, ◌&&◌, nat_le, nat_lt, if◌then◌else◌, Bool, false, is_none, Option, Some, None, List, [], ◌∷◌}
use Rattle.rollback_cmds.specs.declared.order.Order.TheVariants.{Time}
use Rattle.reorder_buffer.specs.declared.slot.Slot.{Slot}
use Rattle.reorder_buffer.specs.declared.slot.SlotState.{SlotState}
use Rattle.reorder_buffer.specs.declared.slot.SlotState.TheVariants.{Waiting, Until, Done}
use Rattle.mono_model.specs.declared.setup.Setup.{Setup}
use Rattle.timing_side.specs.Slots.{is_waiting_state, waiting_count}
use Rattle.timing_side.specs.Timing.{Timing, Phase, quiet, ordering}
use Rattle.timing_side.specs.Issue.{has_operands, class_allows, replayed}
use Rattle.inorder_machine.specs.Issue.{is_load_class, execute_latency}
use Rattle.inorder_side.specs.Timing.{InorderTiming, in_execute, InorderPhase, flushing}

-- it is in Decode, and was fetched in an earlier cycle
abbrev pub is_past_fetch : ℕ → Slot → Bool
is_past_fetch cycle slot = is_waiting_state slot.state && nat_lt slot.fetched cycle

-- A load in Memory has no value yet: a younger slot finds it as one that executes. The older slots stand youngest first.
abbrev pub valueless : ℕ → SlotState → SlotState
valueless e Waiting = Waiting
valueless e (Until from) = Until from
valueless e Done = Until e

abbrev pub found_by_younger : ℕ → Slot → Slot
found_by_younger e slot = if is_load_class slot.class then record slot { state = valueless e slot.state } else slot

abbrev pub found_in_order : Option ℕ → List Slot → List Slot
found_in_order None older = older
found_in_order (Some e) [] = []
found_in_order (Some e) (slot ∷ older) = found_by_younger e slot ∷ older

-- It goes on where Execute is empty, each of its sources has a value, and its class allows it.
abbrev pub may_issue : InorderTiming → List Slot → Slot → Bool
may_issue l older slot =
    is_past_fetch l.timing.cycle slot
    && is_none (in_execute older)
    && has_operands (found_in_order l.memory older) slot
    && class_allows slot.class slot.access (found_in_order l.memory older)

abbrev pub begun : Setup → InorderTiming → Slot → Slot
begun s l slot = record slot { state = Until (l.timing.cycle + execute_latency s.params slot.class) }

unfoldable pub issue_of : Setup → InorderTiming → List Slot → Slot → Slot
issue_of s l older slot = if may_issue l older slot then begun s l slot else slot

-- the slots from a place on, of which the youngest is the one in Decode, if there is one there
unfoldable pub issue_from : Setup → InorderTiming → List Slot → List Slot → List Slot
issue_from s l older [] = []
issue_from s l older (slot ∷ []) = issue_of s l older slot ∷ []
issue_from s l older (slot ∷ next ∷ rest) = slot ∷ issue_from s l (slot ∷ older) (next ∷ rest)

-- The oldest slot, where it reads the time and was given none, is sent back to fetch to be given this cycle as its time.
abbrev pub wants_time_first : ℕ → List Slot → Bool
wants_time_first cycle [] = false
wants_time_first cycle (slot ∷ rest) = is_past_fetch cycle slot && slot.unserved

abbrev pub wants_time : Timing → Bool
wants_time t = wants_time_first t.cycle t.slots

abbrev pub issued : Setup → InorderTiming → Timing
issued s l = record l.timing { slots = issue_from s l [] l.timing.slots }

abbrev pub issue_phase : Setup → InorderTiming → Phase
issue_phase s l = if wants_time l.timing then ordering (Time l.timing.to_commit l.timing.cycle) (replayed l.timing) else quiet (issued s l)

unfoldable pub timing_inorder_issue : Setup → InorderTiming → InorderPhase
timing_inorder_issue s l = flushing (issue_phase s l) l.memory

-- fetch isn't waiting for a miss, and Decode is empty
unfoldable pub timing_inorder_may_fetch : Timing → Bool
timing_inorder_may_fetch t = nat_le t.resume t.cycle && waiting_count t.slots == 0
