-- The stations, the store queue and the count of divisions stay those of the window's slots, as these change.
use Rattle.std.proofs.Common.{◌≡◌, ℕ, ◌+◌, ◌-◌, if◌then◌else◌, is_some, Option, Some, None, [], ◌∷◌, ◌++◌, refl, ap, sym, ◌∙◌, arith}
use Rattle.std.specs.Prelude.{slice_get, slice_set}
use Rattle.fsim_base.specs.declared.cause.Cause.{Cause}
use Rattle.reorder_buffer.specs.declared.slot.Slot.{Slot}
use Rattle.reorder_buffer.specs.declared.slot.SlotState.{SlotState}
use Rattle.reorder_buffer.specs.declared.slot.SlotState.TheVariants.{Waiting, Until, Done}
use Rattle.reorder_buffer.specs.Window.{Contents, HasOwnPositions, room_of, position_of}
use Rattle.reservation_stations.specs.declared.station.Mark.{Mark}
use Rattle.reservation_stations.specs.declared.station.Mark.TheVariants as mark
use Rattle.reservation_stations.specs.declared.station.Station.{Station}
use Rattle.reservation_stations.specs.Readiness.{Window, mark_of, marked}
use Rattle.load_store_queue.specs.Queue.{Contents as Stores}
use Rattle.timing_side.specs.Slots.{is_done_state}
use Rattle.timing_side.specs.Issue.{busy_divisions}
use Rattle.in_flight.specs.Flight.{IsExecuting}
use Rattle.in_flight.specs.Step.{done_mark, mark_in, station_in, stations_of, queue_of, queued_as, IsInStep}
use Rattle.in_flight.proofs.Divisions.{division, waits_undivided, done_undivided, divisions-append, divisions-set}
use Rattle.in_flight.proofs.Stations.{mark_at, marks_at}
use Rattle.in_flight.proofs.Stores.{set_undone}

-- a slot that waits or is done is no division that executes
waiting_undivided : (slot : Slot) → slot.state ≡ Waiting → division slot ≡ 0
waiting_undivided slot waiting = rw (waiting, waits_undivided slot.class) refl

-- a mark on the station of a slot
marked_stations : (window : Contents) (stations : Window) (m : Mark) (place : ℕ) (slot new : Slot) → stations ≡ stations_of (room_of window.capacity) window.slots
    → HasOwnPositions (room_of window.capacity) window.slots → slice_get window.slots place ≡ Some slot → station_in (room_of window.capacity) new ≡ record (station_in (room_of window.capacity) slot) { mark = m }
    → record stations { stations = marked (position_of (room_of window.capacity) slot.number) m stations.stations } ≡ stations_of (room_of window.capacity) (slice_set window.slots place new)
marked_stations window stations m place slot new are apart here is =
    ap (λ (w : Window). let now : Window = record w { stations = marked (position_of (room_of window.capacity) slot.number) m w.stations } in now) are
    ∙ ap (λ held. let now : Window = record { capacity = room_of window.capacity; stations = held } in now) (marks_at (room_of window.capacity) m window.slots place slot new apart here is)

pub waits_at : (window : Contents) (stations : Window) (place : ℕ) (slot : Slot) → stations ≡ stations_of (room_of window.capacity) window.slots
    → HasOwnPositions (room_of window.capacity) window.slots → slice_get window.slots place ≡ Some slot → slot.state ≡ Waiting
    → mark_of (position_of (room_of window.capacity) slot.number) stations.stations ≡ Some mark.Waiting
waits_at window stations place slot are apart here waiting =
    ap (λ (w : Window). mark_of (position_of (room_of window.capacity) slot.number) w.stations) are ∙ mark_at (room_of window.capacity) window.slots place slot apart here
    ∙ ap (λ state. Some (mark_in state slot.cause)) waiting

issued_mark : (state : SlotState) (cause : Option Cause) → IsExecuting state → mark_in state cause ≡ mark.Issued
issued_mark Waiting cause executing = absurd executing
issued_mark (Until cycle) cause executing = refl
issued_mark Done cause executing = absurd executing

pub executes_at : (window : Contents) (stations : Window) (place : ℕ) (slot : Slot) → stations ≡ stations_of (room_of window.capacity) window.slots
    → HasOwnPositions (room_of window.capacity) window.slots → slice_get window.slots place ≡ Some slot → IsExecuting slot.state
    → mark_of (position_of (room_of window.capacity) slot.number) stations.stations ≡ Some mark.Issued
executes_at window stations place slot are apart here executing =
    ap (λ (w : Window). mark_of (position_of (room_of window.capacity) slot.number) w.stations) are ∙ mark_at (room_of window.capacity) window.slots place slot apart here
    ∙ ap Some (issued_mark slot.state slot.cause executing)

-- it begins to execute
pub begun_keeps : (window : Contents) (stations : Window) (stores : Stores) (dividing place until : ℕ) (slot : Slot) → IsInStep window stations stores dividing
    → HasOwnPositions (room_of window.capacity) window.slots → slice_get window.slots place ≡ Some slot → slot.state ≡ Waiting
    → IsInStep (record window { slots = slice_set window.slots place (record slot { state = Until until }) })
    (record stations { stations = marked (position_of (room_of window.capacity) slot.number) mark.Issued stations.stations })
    stores
    (dividing + division (record slot { state = Until until }))
begun_keeps window stations stores dividing place until slot step apart here waiting =
    let new : Slot = record slot { state = Until until } in
    let queued : queued_as new ≡ queued_as slot = λ i. record { number = slot.number; is_done = sym (ap is_done_state waiting) i } in
    record {
      limit = step.limit;
      stations_are = marked_stations window stations mark.Issued place slot new step.stations_are apart here refl;
      stores_are = step.stores_are ∙ ap (λ held. let now : Stores = record { capacity = window.capacity; stores = held } in now) (sym (set_undone window.slots place slot new here refl queued));
      dividing_is = omega (arith, step.dividing_is, divisions-set window.slots place slot new here, waiting_undivided slot waiting);
    }

-- it is done
woken_mark : (cause : Option Cause) → (if is_some cause then mark.Faulted else mark.Done) ≡ done_mark cause
woken_mark None = refl
woken_mark (Some cause) = refl

pub finished_keeps : (window : Contents) (stations : Window) (stores queued : Stores) (dividing place : ℕ) (slot : Slot) → IsInStep window stations stores dividing
    → HasOwnPositions (room_of window.capacity) window.slots → slice_get window.slots place ≡ Some slot
    → queued ≡ queue_of window.capacity (slice_set window.slots place (record slot { state = Done }))
    → IsInStep (record window { slots = slice_set window.slots place (record slot { state = Done }) })
    (record stations { stations = marked (position_of (room_of window.capacity) slot.number) (if is_some slot.cause then mark.Faulted else mark.Done) stations.stations })
    queued
    (dividing - division slot)
finished_keeps window stations stores queued dividing place slot step apart here is =
    let new : Slot = record slot { state = Done } in
    let gone : division new ≡ 0 = rw (done_undivided slot.class) refl in
    let faulted = if is_some slot.cause then mark.Faulted else mark.Done in
    record {
      limit = step.limit;
      stations_are =
          marked_stations window stations faulted place slot new step.stations_are apart here
          (ap (λ m. let station : Station = record (station_in (room_of window.capacity) slot) { mark = m } in station) (sym (woken_mark slot.cause)));
      stores_are = is;
      dividing_is = omega (arith, step.dividing_is, divisions-set window.slots place slot new here, gone);
    }

-- one more comes
pub appended_keeps : {window now : Contents} {stations entered : Window} {stores queued : Stores} {dividing : ℕ} (slot : Slot)
    → IsInStep window stations stores dividing → slot.state ≡ Waiting → now ≡ record window { slots = window.slots ++ slot ∷ [] }
    → entered ≡ stations_of (room_of now.capacity) now.slots → queued ≡ queue_of now.capacity now.slots
    → IsInStep now entered queued dividing
appended_keeps {window = window} slot step waiting is are_entered are_queued = record {
  limit = omega (arith, step.limit, ap (λ (w : Contents). w.capacity) is);
  stations_are = are_entered;
  stores_are = are_queued;
  dividing_is = omega (
    arith,
    step.dividing_is,
    divisions-append window.slots (slot ∷ []),
    waiting_undivided slot waiting,
    ap (λ (w : Contents). busy_divisions w.slots) is,
  );
}
