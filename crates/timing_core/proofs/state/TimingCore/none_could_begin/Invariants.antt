use Rattle.std.proofs.Common.{◌≡◌, ℕ, ◌-◌, ◌<◌, true, false, Some, length}
use Rattle.std.specs.Prelude.{slice_get}
use Rattle.reorder_buffer.specs.declared.slot.Slot.{Slot}
use Rattle.in_flight.specs.Flight.{may_start_at}
use Rattle.in_flight.specs.Snapshot.{IsSnapshot}
use Rattle.timing_core.specs.Idle.{could_begin}
use Rattle.timing_core.proofs.state.TimingCore.none_could_begin.Given as goal

abbrev pub invariant-loop-place : goal.invariant-loop-place
invariant-loop-place l = record {
  ready : IsSnapshot (may_start_at l.fn.self.flight.slots) l.from l.ready;
  none : (k : ℕ) (slot : Slot) → k < l.from → slice_get l.fn.self.flight.slots k ≡ Some slot → may_start_at l.fn.self.flight.slots k ≡ true →
      could_begin l.fn.self.params l.fn.self.flight.slots k slot ≡ false;
}

abbrev pub decreases-loop-place : goal.decreases-loop-place
decreases-loop-place l = length l.fn.self.flight.slots - l.from
