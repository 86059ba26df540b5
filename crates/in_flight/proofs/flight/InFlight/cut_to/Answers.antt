use Rattle.std.proofs.Common.{◌-◌, ap, ◌∙◌, arith, take, length}
use Rattle.std.proofs.lemmas.List.{take-map, length-map}
use Rattle.reorder_buffer.specs.Window.{Contents, room_of}
use Rattle.reservation_stations.specs.Readiness.{Window}
use Rattle.load_store_queue.specs.Queue.{Contents as Stores}
use Rattle.load_store_queue.specs.Queue as queue
use Rattle.in_flight.specs.Step.{station_in}
use Rattle.in_flight.proofs.Stores.{stores_cut, window_cut, window_count}
use Rattle.in_flight.proofs.flight.InFlight.cut_to.Goals as goal

pub invariant_of-self : goal.invariant_of-self
invariant_of-self c =
    let window = c.self.inside.window in
    let slot = c.slot_at.result.1 in
    let front = window_cut window.slots c.args.place slot c.slot_at.ensures.consecutive c.slot_at.ensures.slot in
    let kept = c.cut_from-2.ensures.kept ∙ ap (λ slots. let now : Contents = record { capacity = window.capacity; slots = slots } in now) front in
    let below : Stores → Stores = λ q. record q { stores = queue.below_number slot.number q.stores } in
    let front_stations : Window → Window = λ w. record w { stations = take c.args.place w.stations } in
    let stores = stores_cut window.slots c.args.place slot c.slot_at.ensures.consecutive c.slot_at.ensures.slot in
    rw kept (record {
      limit = c.self.invariant.limit;
      stations_are = c.keep.ensures.kept ∙ ap front_stations c.self.invariant.stations_are
          ∙ ap (λ held. let now : Window = record { capacity = room_of window.capacity; stations = held } in now) (take-map (station_in (room_of window.capacity)) c.args.place window.slots);
      stores_are = c.cut_from.ensures.kept ∙ ap below c.self.invariant.stores_are ∙ ap (λ held. let now : Stores = record { capacity = window.capacity; stores = held } in now) stores;
      dividing_is = omega (arith, c.self.invariant.dividing_is, c.divisions_cut.ensures.divisions);
    })

pub returns-clause-kept : goal.returns-clause-kept
returns-clause-kept c =
    let window = c.self.inside.window in
    let front = window_cut window.slots c.args.place c.slot_at.result.1 c.slot_at.ensures.consecutive c.slot_at.ensures.slot in
    c.cut_from-2.ensures.kept ∙ ap (λ slots. let now : Contents = record { capacity = window.capacity; slots = slots } in now) front
    ∙ ap (λ (w : Contents). let now : Contents = record w { slots = take c.args.place w.slots } in now) c.self.view_is

pub returns-clause-count : goal.returns-clause-count
returns-clause-count c =
    let window = c.self.inside.window in
    c.cut_from-2.ensures.count ∙ window_count window.slots c.args.place c.slot_at.result.1 c.slot_at.ensures.consecutive c.slot_at.ensures.slot
    ∙ ap (λ (w : Contents). length w.slots - c.args.place) c.self.view_is

pub keep-requires : goal.keep-requires
keep-requires c =
    let window = c.self.inside.window in
    let as_many = ap (λ (w : Window). length w.stations) c.self.invariant.stations_are ∙ length-map window.slots (station_in (room_of window.capacity)) in
    record { within = omega (arith, c.if-place-len.false, c.len.ensures.count, as_many) }
