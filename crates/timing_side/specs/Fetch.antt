-- The fifth phase of a cycle: slots are appended along the predicted path, each made of what was told of the instruction
-- at which fetch stands (Hennessy and Patterson, Computer Architecture, sections 3.3 and 3.9).
use Rattle.std.specs.Prelude.{ℕ, ◌+◌, ◌==◌, ◌&&◌, not, nat_le, nat_lt, if◌then◌else◌, Bool, true, false, Option, Some, List, [], ◌∷◌, ◌++◌, length}
use Rattle.fsim_base.specs.Number.{wrap_sum}
use Rattle.fsim_base.specs.declared.cause.Cause.{Cause}
use Rattle.fsim_base.specs.declared.cause.Cause.TheVariants.{InstructionMisaligned, InstructionAccess}
use Rattle.rollback_cmds.specs.declared.order.Order.{Order}
use Rattle.rollback_cmds.specs.declared.order.Order.TheVariants.{Set}
use Rattle.branch_predictor.specs.Predictor.{predicted}
use Rattle.cache_timing.specs.Caches.{CachesState, Served, fetched}
use Rattle.trace_entry.specs.declared.Entry.{Entry}
use Rattle.reorder_buffer.specs.declared.slot.Slot.{Slot}
use Rattle.reorder_buffer.specs.declared.slot.SlotState.TheVariants.{Waiting}
use Rattle.mono_model.specs.declared.setup.Setup.{Setup}
use Rattle.mono_model.specs.Setup.{predictor_params, caches_params}
use Rattle.reorder_buffer.specs.Held.{slot_from}
use Rattle.timing_side.specs.Slots.{waiting_count}
use Rattle.timing_side.specs.Timing.{Timing, Phase, quiet}

-- fetch isn't waiting for a miss, and window and stations have room
unfoldable pub may_fetch : Setup → Timing → Bool
may_fetch s t =
    nat_le t.resume t.cycle && nat_lt (length t.slots) s.params.core_window && nat_lt (waiting_count t.slots) s.params.core_stations

-- Nothing could be fetched: the word is 0, and the cause is one of instruction fetch.
abbrev pub is_fetch_cause : Option Cause → Bool
is_fetch_cause (Some InstructionMisaligned) = true
is_fetch_cause (Some InstructionAccess) = true
is_fetch_cause other = false

abbrev pub is_fetchable : Entry → Bool
is_fetchable e = not (e.word == 0 && is_fetch_cause e.cause)

-- the access of the instruction cache, unless the miss was waited for or nothing could be fetched
abbrev pub cache_read : Setup → Entry → Timing → Served
cache_read s e t =
    if is_fetchable e && not t.paid
    then fetched (caches_params s.params) t.caches e.addr
    else record { state = t.caches; cycles = 0 }

abbrev pub predicted_next : Setup → Entry → Timing → ℕ
predicted_next s e t = predicted (predictor_params s.params) t.predictor e.addr

abbrev pub new_slot : Setup → Entry → Timing → Slot
new_slot s e t = slot_from e (predicted_next s e t) t.cycle Waiting

-- the cache misses: fetch waits
abbrev pub missed : ℕ → CachesState → Timing → Timing
missed cycles caches t = record t { caches = caches; resume = t.cycle + cycles; paid = true }

abbrev pub appended : Setup → Entry → CachesState → Timing → Timing
appended s e caches t = record t {
  slots = t.slots ++ new_slot s e t ∷ [];
  caches = caches;
  paid = false;
  counts = record t.counts { fetched = t.counts.fetched + 1 };
}

-- where the instruction doesn't go as predicted, the functional side is made to follow the prediction
abbrev pub path_orders : Setup → Entry → Timing → List Order
path_orders s e t =
    if e.next == predicted_next s e t then [] else Set (t.to_commit + length t.slots + 1) (predicted_next s e t) ∷ []

-- A try, and whether the next one may follow: not behind a miss, and not where the path goes elsewhere than on.
pub record Tried : Type 0 where
  pub phase : Phase
  pub goes_on : Bool

abbrev pub tried : Setup → Entry → Served → Timing → Tried
tried s e d t =
    if nat_lt 0 d.cycles
    then record { phase = quiet (missed d.cycles d.state t); goes_on = false }
    else record {
      phase = record { timing = appended s e d.state t; orders = path_orders s e t };
      goes_on = predicted_next s e t == wrap_sum e.addr 4;
    }

unfoldable pub timing_try : Setup → Entry → Timing → Tried
timing_try s e t = tried s e (cache_read s e t) t
