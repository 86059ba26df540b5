use Rattle.std.proofs.Common.{ap, ◌∙◌}
use Rattle.reorder_buffer.specs.Window.{Contents, room_of}
use Rattle.reservation_stations.specs.Readiness.{Window, waiting_count as stations_waiting}
use Rattle.timing_side.specs.Slots.{waiting_count}
use Rattle.in_flight.proofs.Operands.{waiting_same}
use Rattle.in_flight.proofs.flight.InFlight.waiting.Goals as goal

pub returns : goal.returns
returns c =
    let window = c.self.inside.window in
    record {
      count = c.waiting.ensures.count ∙ ap (λ (w : Window). stations_waiting w.stations) c.self.invariant.stations_are ∙ waiting_same (room_of window.capacity) window.slots
          ∙ ap (λ (w : Contents). waiting_count w.slots) c.self.view_is;
    }
