-- What is seen of the timing sides.
use Rattle.std.specs.Prelude.{ℕ, zero, suc, ◌==◌, ◌&&◌, if◌then◌else◌, Bool, true, false, Option, Some, None, List, [], ◌∷◌, map}
use Rattle.fsim_base.specs.declared.cause.Cause.{Cause}
use Rattle.trace_entry.specs.declared.Entry.{Entry}
use Rattle.reorder_buffer.specs.declared.slot.Slot.{Slot}
use Rattle.reorder_buffer.specs.declared.slot.SlotState.{SlotState}
use Rattle.reorder_buffer.specs.declared.slot.SlotState.TheVariants.{Waiting, Until, Done}
use Rattle.timing_side.specs.Fetch.{is_fetch_cause}
use Rattle.timing_core.specs.declared.state.TimingCore.{TimingCore}
use Rattle.timing_core.specs.Counts.{counts_in}
use Rattle.time_model.specs.Missing.{missing_in}
use Rattle.time_model.specs.OutOfOrder.{TimeState}
use Rattle.inorder_side.specs.Timing.{done_count}
use Rattle.inorder_model.specs.Standing.{InorderState}
use Rattle.insight_model.specs.Sight.{Outcome, next_seen, Progress, Shown, Sight, waiting, executing, accessing, done}

-- the word of a slot, if there is one to be fetched
abbrev pub slot_word : Slot → Option ℕ
slot_word slot = if slot.word == 0 && is_fetch_cause slot.cause then None else Some slot.word

abbrev pub slot_outcome : Slot → Outcome
slot_outcome slot = record { next = next_seen slot.cause slot.next; access = slot.access; cause = slot.cause }

abbrev pub slot_progress : SlotState → Outcome → Progress
slot_progress Waiting o = waiting
slot_progress (Until e) o = executing e o
slot_progress Done o = done o

abbrev pub slot_as : Slot → Progress → Shown
slot_as slot progress = record {
  addr = slot.addr;
  word = slot_word slot;
  predicted = slot.predicted;
  since = slot.fetched;
  progress = progress;
}

abbrev pub slot_shown : Slot → Shown
slot_shown slot = slot_as slot (slot_progress slot.state (slot_outcome slot))

-- In order, the youngest slot that is done is in Memory, if that has one.
abbrev pub inorder_slot_progress : Option ℕ → ℕ → SlotState → Outcome → Progress
inorder_slot_progress (Some e) zero Done o = accessing e o
inorder_slot_progress memory younger state o = slot_progress state o

abbrev pub inorder_slots_shown : Option ℕ → List Slot → List Shown
inorder_slots_shown memory [] = []
inorder_slots_shown memory (slot ∷ rest) =
    slot_as slot (inorder_slot_progress memory (done_count rest) slot.state (slot_outcome slot)) ∷ inorder_slots_shown memory rest

abbrev pub core_sight : List Shown → Option Entry → TimingCore → Sight
core_sight shown held core = record {
  cycle = core.cycle;
  retired = core.retired;
  counts = counts_in core.counts;
  end = core.end;
  resume = core.resume;
  missing = missing_in core.paid held;
  window = shown;
}

-- of the monolithic machine's
abbrev pub time_sight : TimeState → Sight
time_sight side = core_sight (map slot_shown side.pipeline.flight.slots) side.telling.held side.pipeline

-- of the in-order machine's
abbrev pub inorder_side_sight : InorderState → Sight
inorder_side_sight side =
    core_sight (inorder_slots_shown side.pipeline.memory side.pipeline.core.flight.slots) side.telling.held side.pipeline.core
