use Rattle.std.proofs.Common.{◌<◌, length, ap, sym, ◌∙◌, subst, arith, refl, IfSome, IsNone}
use Rattle.reorder_buffer.specs.declared.slot.SlotState.TheVariants.{Waiting}
use Rattle.reorder_buffer.specs.Held.{slot_from}
use Rattle.reorder_buffer.specs.Window.{Contents, room_of}
use Rattle.reservation_stations.specs.Readiness.{Window, station_of}
use Rattle.load_store_queue.specs.Queue.{Contents as Stores, youngest}
use Rattle.in_flight.specs.Step.{put_in, queue_of}
use Rattle.in_flight.proofs.Stations.{none_holds}
use Rattle.in_flight.proofs.Stores.{put_room, put_above, puts}
use Rattle.in_flight.proofs.appending.append_known.Goals as goal

pub enter-requires-clause-free : goal.enter-requires-clause-free
enter-requires-clause-free c =
    let window = c.args.window.now in
    subst (λ (w : Window). IsNone (station_of c.free_position-position.result w.stations)) (sym c.requires.stations)
    (none_holds (room_of window.capacity) c.free_position-position.result window.slots c.free_position-position.ensures.free)

pub put_store-requires-clause-room : goal.put_store-requires-clause-room
put_store-requires-clause-room c =
    let window = c.args.window.now in
    subst (λ (q : Stores). length q.stores < q.capacity) (sym c.requires.stores) (omega (arith, put_room window.slots, c.requires.room))

pub put_store-requires-clause-above : goal.put_store-requires-clause-above
put_store-requires-clause-above c =
    let slot = slot_from c.args.entry.now c.args.predicted c.args.fetched Waiting in
    subst (λ (q : Stores). IfSome (youngest q.stores) (λ last. last.number < slot.number)) (sym c.requires.stores)
    (put_above c.args.window.now.slots slot c.len.ensures.consecutive c.requires.next)

pub returns-clause-stores : goal.returns-clause-stores
returns-clause-stores c =
    let slot = slot_from c.args.entry.now c.args.predicted c.args.fetched Waiting in
    let window = c.args.window.now in
    let now : Contents → Stores = λ w. queue_of w.capacity w.slots in
    let queue : Stores → Stores = λ q. record q { stores = put_in slot q.stores } in
    c.put_store.ensures.put c.args.predicted c.args.fetched ∙ ap queue c.requires.stores
    ∙ ap (λ stores. let held : Stores = record { capacity = window.capacity; stores = stores } in held) (puts window.slots slot refl)
    ∙ ap now (sym c.append.ensures.appended)
