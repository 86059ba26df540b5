use Rattle.std.proofs.Common.{◌≡◌, ℕ, ◌-◌, ◌<◌, ◌≤◌, Some, length}
use Rattle.std.specs.Prelude.{slice_get}
use Rattle.reorder_buffer.specs.declared.slot.Slot.{Slot}
use Rattle.reorder_buffer.specs.declared.slot.SlotState.TheVariants.{Until}
use Rattle.in_flight.specs.Flight.{executes_at}
use Rattle.in_flight.specs.Snapshot.{IsSnapshot}
use Rattle.timing_core.proofs.state.TimingCore.first_end.Given as goal

abbrev pub invariant-loop-place : goal.invariant-loop-place
invariant-loop-place l = record {
  executes : IsSnapshot (executes_at l.fn.self.flight.slots) l.from l.executes;
  ends : (k : ℕ) (slot : Slot) (end : ℕ) → k < l.from → slice_get l.fn.self.flight.slots k ≡ Some slot → slot.state ≡ Until end → l.first ≤ end;
}

abbrev pub decreases-loop-place : goal.decreases-loop-place
decreases-loop-place l = length l.fn.self.flight.slots - l.from
