-- The fourth phase of a cycle: slots whose operands are there and that have a unit begin to execute, from the oldest to
-- the youngest (Hennessy and Patterson, Computer Architecture, section 3.6, issue and execute; section 3.4, Tomasulo's
-- algorithm).
use Rattle.std.specs.Prelude.{ℕ, ◌+◌, ◌&&◌, nat_le, if◌then◌else◌, Bool, true, false, is_none, Option, Some, None, List, [], ◌∷◌}
use Rattle.fsim_base.specs.declared.access.Access.{Access}
use Rattle.fsim_base.specs.declared.access.Access.TheVariants as access
use Rattle.fsim_base.specs.declared.access.Spot.TheVariants.{Device}
use Rattle.fsim_base.specs.declared.cause.Cause.{Cause}
use Rattle.fsim_base.specs.declared.instruction.Class.{Class}
use Rattle.fsim_base.specs.declared.instruction.Class.TheVariants as class
use Rattle.rollback_cmds.specs.declared.order.Order.TheVariants.{Time}
use Rattle.cache_timing.specs.Caches.{CachesState, Served}
use Rattle.reorder_buffer.specs.declared.slot.Slot.{Slot}
use Rattle.reorder_buffer.specs.declared.slot.SlotState.{SlotState}
use Rattle.reorder_buffer.specs.declared.slot.SlotState.TheVariants.{Waiting, Until, Done}
use Rattle.mono_model.specs.declared.params.Params.{Params}
use Rattle.mono_model.specs.declared.setup.Setup.{Setup}
use Rattle.mono_model.specs.Found.{first_source, second_source, destination_in}
use Rattle.mono_model.specs.Window.{is_register, is_store_class}
use Rattle.mono_model.specs.Issue.{Used, none_used, has_unit, with_used, latency_of, cached}
use Rattle.timing_side.specs.Slots.{found_in, is_waiting_state, is_done_state}
use Rattle.timing_side.specs.Timing.{Timing, cut_to, Phase, quiet, ordering}

-- the slot has passed the front of the pipeline
abbrev pub is_past_front : Params → ℕ → Slot → Bool
is_past_front p cycle slot = is_waiting_state slot.state && nat_le (slot.fetched + p.core_front) cycle

-- A source has a value where the youngest older slot that writes it is done without a cause, or no older slot writes it.
-- The older slots stand youngest first.
abbrev pub gives_value : SlotState → Option Cause → Bool
gives_value Waiting cause = false
gives_value (Until e) cause = false
gives_value Done cause = is_none cause

abbrev pub is_available : List Slot → ℕ → Bool
is_available [] register = true
is_available (slot ∷ older) register =
    if is_register register (destination_in (found_in slot)) then gives_value slot.state slot.cause else is_available older register

abbrev pub has_value : List Slot → Option ℕ → Bool
has_value older None = true
has_value older (Some register) = is_available older register

abbrev pub has_operands : List Slot → Slot → Bool
has_operands older slot = has_value older (first_source (found_in slot)) && has_value older (second_source (found_in slot))

-- whether all stores among some slots are done
abbrev pub is_unfinished_store : Slot → Bool
is_unfinished_store slot = if is_store_class slot.class then (if is_done_state slot.state then false else true) else false

abbrev pub are_stores_done : List Slot → Bool
are_stores_done [] = true
are_stores_done (slot ∷ older) = if is_unfinished_store slot then false else are_stores_done older

-- divisions that execute
abbrev pub is_busy_division : Class → SlotState → Bool
is_busy_division class.Div (Until e) = true
is_busy_division other state = false

abbrev pub busy_divisions : List Slot → ℕ
busy_divisions [] = 0
busy_divisions (slot ∷ rest) = (if is_busy_division slot.class slot.state then 1 else 0) + busy_divisions rest

-- whether a class allows the issue, by its access and the older slots: a load of a device, a CSR instruction and MRET
-- issue only as the oldest; any other load only when all older stores are done
abbrev pub is_oldest : List Slot → Bool
is_oldest [] = true
is_oldest (slot ∷ older) = false

abbrev pub load_allows : Access → List Slot → Bool
load_allows (access.Load addr width Device) older = is_oldest older
load_allows made older = are_stores_done older

abbrev pub class_allows : Class → Access → List Slot → Bool
class_allows class.Alu made older = true
class_allows class.Mul made older = true
class_allows class.Div made older = true
class_allows class.Load made older = load_allows made older
class_allows class.Store made older = true
class_allows class.Serial made older = is_oldest older

-- A slot begins to execute where it has passed the front, its operands are there, its class allows it and a unit is free.
-- `busy` divisions were executing when the phase began.
abbrev pub may_begin : Params → ℕ → ℕ → List Slot → Slot → Used → Bool
may_begin p cycle busy older slot used =
    is_past_front p cycle slot && has_operands older slot && class_allows slot.class slot.access older && has_unit p (busy + used.div) used slot.class

-- a slot as it goes on, with the units used and the caches behind it
pub record Turned : Type 0 where
  pub turned : Slot
  pub used : Used
  pub caches : CachesState

abbrev pub unchanged : Slot → Used → CachesState → Turned
unchanged slot used caches = record { turned = slot; used = used; caches = caches }

abbrev pub begun : Setup → ℕ → Slot → Used → Served → Turned
begun s cycle slot used d = record {
  turned = record slot { state = Until (cycle + latency_of s.params slot.class + d.cycles) };
  used = with_used slot.class used;
  caches = d.state;
}

-- a load of RAM without a cause accesses the data cache, on wrong paths too
unfoldable pub turn_of : Setup → ℕ → ℕ → List Slot → Slot → Used → CachesState → Turned
turn_of s cycle busy older slot used caches =
    if may_begin s.params cycle busy older slot used
    then begun s cycle slot used (cached s slot.cause slot.access caches)
    else unchanged slot used caches

-- The walk: the slots from a place on, and the caches behind it.
pub record Walked : Type 0 where
  pub slots : List Slot
  pub caches : CachesState

abbrev pub walked_on : Slot → Walked → Walked
walked_on slot w = record w { slots = slot ∷ w.slots }

-- the walk over the slots from a place on; the older ones stand youngest first
unfoldable pub walk : Setup → ℕ → ℕ → List Slot → List Slot → Used → CachesState → Walked
walk s cycle busy [] older used caches = record { slots = []; caches = caches }
walk s cycle busy (slot ∷ rest) older used caches =
    let t = turn_of s cycle busy older slot used caches in
    walked_on t.turned (walk s cycle busy rest (t.turned ∷ older) t.used t.caches)

-- The oldest slot, where it reads the time and was given none, is sent back to fetch to be given this cycle as its time.
abbrev pub wants_time_first : Params → ℕ → List Slot → Bool
wants_time_first p cycle [] = false
wants_time_first p cycle (slot ∷ rest) = is_past_front p cycle slot && slot.unserved

abbrev pub wants_time : Setup → Timing → Bool
wants_time s t = wants_time_first s.params t.cycle t.slots

abbrev pub replayed : Timing → Timing
replayed t = let f = cut_to [] t in record f { counts = record f.counts { replays = f.counts.replays + 1 } }

abbrev pub issued : Setup → Timing → Timing
issued s t =
    let w = walk s t.cycle (busy_divisions t.slots) t.slots [] none_used t.caches in
    record t { slots = w.slots; caches = w.caches }

unfoldable pub timing_issue : Setup → Timing → Phase
timing_issue s t = if wants_time s t then ordering (Time t.to_commit t.cycle) (replayed t) else quiet (issued s t)
