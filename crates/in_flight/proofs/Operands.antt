-- A slot waits and has its operands exactly where its station can begin, and executes where its station does.
use Rattle.std.proofs.Common.{◌≡◌, ℕ, ◌+◌, ◌&&◌, if◌then◌else◌, Option, Some, None, List, [], ◌∷◌, ◌++◌, map, reverse, take, refl, ap, sym, ◌∙◌}
use Rattle.std.specs.Prelude.{slice_get, option_map}
use Rattle.std.proofs.lemmas.List.{take-map, map-append, reverse-append}
use Rattle.std.proofs.lemmas.Option.{slice_get-map}
use Rattle.fsim_base.specs.declared.cause.Cause.{Cause}
use Rattle.reorder_buffer.specs.declared.slot.Slot.{Slot}
use Rattle.reorder_buffer.specs.declared.slot.SlotState.{SlotState}
use Rattle.reorder_buffer.specs.declared.slot.SlotState.TheVariants.{Waiting, Until, Done}
use Rattle.reorder_buffer.specs.Window.{Contents, room_of}
use Rattle.reservation_stations.specs.Readiness.{is_waiting, is_issued, is_done, has_written_value, has_operand, older_than, can_begin, can_begin_at, waiting_count as stations_waiting, Window}
use Rattle.reservation_stations.specs.Readiness as stations
use Rattle.reservation_stations.specs.declared.sought.Sought.{Sought}
use Rattle.reservation_stations.specs.declared.sought.Sought.TheVariants.{Ready, Executing}
use Rattle.mono_model.specs.Found.{destination_in}
use Rattle.mono_model.specs.Window.{is_register}
use Rattle.timing_side.specs.Slots.{found_in, is_waiting_state, waiting_count}
use Rattle.timing_side.specs.Issue.{gives_value, is_available, has_value, has_operands}
use Rattle.in_flight.specs.Flight.{older_at, may_start, may_start_at, is_executing_state, executes, executes_at, is_sought_at}
use Rattle.in_flight.specs.Step.{mark_in, station_in, stations_in, stations_of}

-- a station is done where its slot gives a value, and waits where its slot waits
gives : (state : SlotState) (cause : Option Cause) → is_done (mark_in state cause) ≡ gives_value state cause
gives Waiting cause = refl
gives (Until e) cause = refl
gives Done None = refl
gives Done (Some cause) = refl

waits : (state : SlotState) (cause : Option Cause) → is_waiting (mark_in state cause) ≡ is_waiting_state state
waits Waiting cause = refl
waits (Until e) cause = refl
waits Done None = refl
waits Done (Some cause) = refl

-- a register, a source and both sources have values for the stations as for the slots
written : (capacity : ℕ) (older : List Slot) (register : ℕ) → has_written_value (stations_in capacity older) register ≡ is_available older register
written capacity [] register = refl
written capacity (slot ∷ older) register =
    λ i. if is_register register (destination_in (found_in slot)) then gives slot.state slot.cause i else written capacity older register i

operand : (capacity : ℕ) (older : List Slot) (source : Option ℕ) → has_operand (stations_in capacity older) source ≡ has_value older source
operand capacity older None = refl
operand capacity older (Some register) = written capacity older register

operands : (capacity : ℕ) (older : List Slot) (slot : Slot) → stations.has_operands (stations_in capacity older) (station_in capacity slot) ≡ has_operands older slot
operands capacity older slot = λ i.
    operand capacity older (station_in capacity slot).first i && operand capacity older (station_in capacity slot).second i

-- the stations of the older slots, the youngest first
pub reverse-map : {X Y : Type 0} (f : X → Y) (xs : List X) → reverse (map f xs) ≡ map f (reverse xs)
reverse-map f [] = refl
reverse-map f (x ∷ xs) =
    reverse-append (f x ∷ []) (map f xs) ∙ ap (λ ys. ys ++ f x ∷ []) (reverse-map f xs)
    ∙ sym (map-append f (reverse xs) (x ∷ [])) ∙ ap (map f) (sym (reverse-append (x ∷ []) xs))

older : (capacity : ℕ) (slots : List Slot) (place : ℕ) → older_than place (stations_in capacity slots) ≡ stations_in capacity (older_at slots place)
older capacity slots place = ap reverse (take-map (station_in capacity) place slots) ∙ reverse-map (station_in capacity) (take place slots)

-- a station can begin where its slot may start
starts : (capacity : ℕ) (older : List Slot) (at : Option Slot) → can_begin (stations_in capacity older) (option_map (station_in capacity) at) ≡ may_start older at
starts capacity older None = refl
starts capacity older (Some slot) = λ i. waits slot.state slot.cause i && operands capacity older slot i

can_start : (capacity : ℕ) (slots : List Slot) (place : ℕ) → can_begin_at (stations_in capacity slots) place ≡ may_start_at slots place
can_start capacity slots place =
    (λ i. can_begin (older capacity slots place i) (slice_get-map (station_in capacity) slots place i))
    ∙ starts capacity (older_at slots place) (slice_get slots place)

-- as many stations wait as slots
pub waiting_same : (capacity : ℕ) (slots : List Slot) → stations_waiting (stations_in capacity slots) ≡ waiting_count slots
waiting_same capacity [] = refl
waiting_same capacity (slot ∷ rest) = λ i. (if waits slot.state slot.cause i then 1 else 0) + waiting_same capacity rest i

-- a station executes where its slot does
issued_in : (state : SlotState) (cause : Option Cause) → is_issued (mark_in state cause) ≡ is_executing_state state
issued_in Waiting cause = refl
issued_in (Until cycle) cause = refl
issued_in Done None = refl
issued_in Done (Some cause) = refl

executes_in : (capacity : ℕ) (at : Option Slot) → stations.executes (option_map (station_in capacity) at) ≡ executes at
executes_in capacity None = refl
executes_in capacity (Some slot) = issued_in slot.state slot.cause

executes_same : (capacity : ℕ) (slots : List Slot) (place : ℕ) → stations.executes_at (stations_in capacity slots) place ≡ executes_at slots place
executes_same capacity slots place = ap stations.executes (slice_get-map (station_in capacity) slots place) ∙ executes_in capacity (slice_get slots place)

-- a station is one that a search looks for where its slot is
sought_same : (sought : Sought) (capacity : ℕ) (slots : List Slot) (place : ℕ) → stations.is_sought_at sought (stations_in capacity slots) place ≡ is_sought_at sought slots place
sought_same Ready = can_start
sought_same Executing = executes_same

pub sought_there : (sought : Sought) (window now : Contents) (those : Window) → those ≡ stations_of (room_of window.capacity) window.slots → window ≡ now →
    stations.is_sought_at sought those.stations ≡ is_sought_at sought now.slots
sought_there sought window now those are is = λ i place.
    (ap (λ (w : Window). stations.is_sought_at sought w.stations place) are ∙ sought_same sought (room_of window.capacity) window.slots place
    ∙ ap (λ (w : Contents). is_sought_at sought w.slots place) is) i
