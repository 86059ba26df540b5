use Rattle.std.proofs.Common.{◌≡◌, ◌-◌, length}
use Rattle.in_flight.specs.Flight.{executes_at}
use Rattle.in_flight.specs.Snapshot.{IsSnapshot}
use Rattle.timing_core.specs.Finishing.{completed_from}
use Rattle.timing_core.proofs.complete.finish_from.Given as goal

abbrev pub invariant-loop-place : goal.invariant-loop-place
invariant-loop-place l = record {
  room : l.flight.capacity ≡ l.fn.flight.capacity;
  count : length l.flight.slots ≡ length l.fn.flight.slots;
  executes : IsSnapshot (executes_at l.flight.slots) l.from l.executes;
  whole : completed_from l.cycle l.start l.fn.flight.slots ≡ completed_from l.cycle l.from l.flight.slots;
}

abbrev pub decreases-loop-place : goal.decreases-loop-place
decreases-loop-place l = length l.flight.slots - l.from
