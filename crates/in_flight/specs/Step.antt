-- What the reservation stations and the store queue hold of the slots of the window (Hennessy and Patterson, Computer
-- Architecture, section 3.6: an instruction has a reservation station and a store a place in the queue until it leaves).
use Rattle.std.specs.Prelude.{◌≡◌, ℕ, ◌≤◌, Bool, false, if◌then◌else◌, Option, Some, None, List, [], ◌∷◌, ◌++◌, map, filter}
use Rattle.fsim_base.specs.declared.cause.Cause.{Cause}
use Rattle.reorder_buffer.specs.declared.slot.Slot.{Slot}
use Rattle.reorder_buffer.specs.declared.slot.SlotState.{SlotState}
use Rattle.reorder_buffer.specs.declared.slot.SlotState.TheVariants.{Waiting, Until, Done}
use Rattle.reorder_buffer.specs.Window.{Contents, room_of, position_of}
use Rattle.reservation_stations.specs.declared.station.Mark.{Mark}
use Rattle.reservation_stations.specs.declared.station.Mark.TheVariants as mark
use Rattle.reservation_stations.specs.declared.station.Station.{Station}
use Rattle.reservation_stations.specs.Readiness.{Window}
use Rattle.load_store_queue.specs.declared.queued.Queued.{Queued}
use Rattle.load_store_queue.specs.Queue.{Contents as Stores, marked}
use Rattle.mono_model.specs.Found.{first_source, second_source, destination_in}
use Rattle.mono_model.specs.Window.{is_store_class}
use Rattle.timing_side.specs.Slots.{found_in, is_done_state}
use Rattle.timing_side.specs.Issue.{busy_divisions}

-- an instruction that is done with a cause gives no value
abbrev pub done_mark : Option Cause → Mark
done_mark None = mark.Done
done_mark (Some cause) = mark.Faulted

abbrev pub mark_in : SlotState → Option Cause → Mark
mark_in Waiting cause = mark.Waiting
mark_in (Until e) cause = mark.Issued
mark_in Done cause = done_mark cause

-- the station of a slot, among so many positions: its index is the slot's position, and its registers are those of its
-- word
abbrev pub station_in : ℕ → Slot → Station
station_in room slot = record {
  index = position_of room slot.number;
  first = first_source (found_in slot);
  second = second_source (found_in slot);
  destination = destination_in (found_in slot);
  mark = mark_in slot.state slot.cause;
}

abbrev pub stations_in : ℕ → List Slot → List Station
stations_in room slots = map (station_in room) slots

abbrev pub stations_of : ℕ → List Slot → Window
stations_of room slots = record { capacity = room; stations = stations_in room slots }

-- the stores among some slots, and which of them are done
abbrev pub is_store : Slot → Bool
is_store slot = is_store_class slot.class

abbrev pub queued_as : Slot → Queued
queued_as slot = record { number = slot.number; is_done = is_done_state slot.state }

abbrev pub stores_in : List Slot → List Queued
stores_in slots = map queued_as (filter is_store slots)

-- stores with that of a slot behind them, if it stores, not done
abbrev pub put_in : Slot → List Queued → List Queued
put_in slot stores =
    if is_store slot then stores ++ record { number = slot.number; is_done = false } ∷ [] else stores

-- stores with that of a slot, if it stores, marked as done
abbrev pub finished_in : Slot → List Queued → List Queued
finished_in slot stores = if is_store slot then marked slot.number stores else stores

abbrev pub queue_of : ℕ → List Slot → Stores
queue_of capacity slots = record { capacity = capacity; stores = stores_in slots }

-- the stations, the store queue and the count of divisions are those of the window's slots
pub record IsInStep (window : Contents) (stations : Window) (stores : Stores) (dividing : ℕ) : Type 0 where
  pub limit : window.capacity ≤ 256
  pub stations_are : stations ≡ stations_of (room_of window.capacity) window.slots
  pub stores_are : stores ≡ queue_of window.capacity window.slots
  pub dividing_is : dividing ≡ busy_divisions window.slots
