-- The phase of completion as far as it has come, and what it comes to.
use Rattle.std.specs.Prelude.{◌≡◌, ℕ, ◌<◌, false, Option, Some, None, List, [], ◌∷◌, take, drop, slice_get}
use Rattle.reorder_buffer.specs.declared.slot.Slot.{Slot}
use Rattle.reorder_buffer.specs.declared.slot.SlotState.TheVariants.{Until}
use Rattle.in_flight.specs.Flight.{executes_at}
use Rattle.timing_side.specs.Complete.{Completed, in_front, completes}
use Rattle.timing_core.specs.declared.complete.Redirect.{Redirect}

-- with some slots in front
abbrev pub in_fronts : List Slot → Completed → Completed
in_fronts [] c = c
in_fronts (slot ∷ rest) c = in_front slot (in_fronts rest c)

-- the slots in front of a place are as they stay
abbrev pub completed_from : ℕ → ℕ → List Slot → Completed
completed_from cycle place slots = in_fronts (take place slots) (completes cycle (drop place slots))

-- the slots that stay of those behind the phase
abbrev pub completed_in : Option Redirect → List Slot → Completed
completed_in None slots = record { slots = slots; redirect = None }
completed_in (Some r) slots = record { slots = take r.kept slots; redirect = Some r.addr }

-- the slot at a place is the first that executes, until a cycle
pub record IsFirst (slots : List Slot) (place : ℕ) (slot : Slot) (until : ℕ) : Type 0 where
  pub there : slice_get slots place ≡ Some slot
  pub due : slot.state ≡ Until until
  pub before : (k : ℕ) → k < place → executes_at slots k ≡ false
