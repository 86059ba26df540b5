-- The third phase of a cycle: slots whose latency is over are done, the oldest first; the first mispredicted one
-- flushes all younger slots (Hennessy and Patterson, Computer Architecture, section 3.6, write result).
use Rattle.std.specs.Prelude.{ℕ, ◌+◌, ◌==◌, ◌&&◌, not, if◌then◌else◌, Bool, true, false, is_none, Option, Some, None, List, [], ◌∷◌, length}
use Rattle.reorder_buffer.specs.declared.slot.Slot.{Slot}
use Rattle.reorder_buffer.specs.declared.slot.SlotState.{SlotState}
use Rattle.reorder_buffer.specs.declared.slot.SlotState.TheVariants.{Waiting, Until, Done}
use Rattle.mono_model.specs.Demand.{redirect_orders}
use Rattle.timing_side.specs.Timing.{Timing, cut_to, Phase}

-- The slots that stay, and where fetch has to go on, if a slot was mispredicted.
pub record Completed : Type 0 where
  pub slots : List Slot
  pub redirect : Option ℕ

-- its latency is over in this cycle
abbrev pub is_finishing : ℕ → SlotState → Bool
is_finishing cycle Waiting = false
is_finishing cycle (Until e) = e == cycle
is_finishing cycle Done = false

-- it went elsewhere than predicted; a slot with a cause never counts
abbrev pub is_mispredicted : Slot → Bool
is_mispredicted slot = is_none slot.cause && not (slot.next == slot.predicted)

abbrev pub finished : Slot → Slot
finished slot = record slot { state = Done }

abbrev pub in_front : Slot → Completed → Completed
in_front slot rest = record rest { slots = slot ∷ rest.slots }

abbrev pub complete_next : Slot → Bool → Completed → Completed
complete_next slot false rest = in_front slot rest
complete_next slot true rest =
    if is_mispredicted slot
    then record { slots = finished slot ∷ []; redirect = Some slot.next }
    else in_front (finished slot) rest

unfoldable pub completes : ℕ → List Slot → Completed
completes cycle [] = record { slots = []; redirect = None }
completes cycle (slot ∷ rest) = complete_next slot (is_finishing cycle slot.state) (completes cycle rest)

abbrev pub completed_by : Option ℕ → List Slot → Timing → Timing
completed_by None slots t = record t { slots = slots }
completed_by (Some addr) slots t =
    let f = cut_to slots t in record f { counts = record f.counts { mispredicted = f.counts.mispredicted + 1 } }

-- the path goes on behind the mispredicted slot where that went
abbrev pub completed_phase : Completed → Timing → Phase
completed_phase c t = record { timing = completed_by c.redirect c.slots t; orders = redirect_orders c.redirect (t.to_commit + length c.slots) [] }

unfoldable pub timing_complete : Timing → Phase
timing_complete t = completed_phase (completes t.cycle t.slots) t
