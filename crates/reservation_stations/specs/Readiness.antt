-- Which instructions of the window wait for an operand: each register is renamed to the youngest older instruction that
-- writes it (Hennessy and Patterson, Computer Architecture, section 3.4, Tomasulo's algorithm).
use Rattle.std.specs.Prelude.{ℕ, ◌+◌, ◌==◌, ◌&&◌, if◌then◌else◌, Bool, true, false, Option, Some, None, option_map, List, [], ◌∷◌, map, find, reverse, take, slice_get}
use Rattle.reservation_stations.specs.declared.station.Mark.{Mark}
use Rattle.reservation_stations.specs.declared.station.Mark.TheVariants.{Waiting, Issued, Done, Faulted}
use Rattle.reservation_stations.specs.declared.station.Station.{Station}
use Rattle.reservation_stations.specs.declared.sought.Sought.{Sought}
use Rattle.reservation_stations.specs.declared.sought.Sought.TheVariants.{Ready, Executing}

-- how many indices there are, and the stations of the instructions in the window, the oldest first
pub record Window : Type 0 where
  pub capacity : ℕ
  pub stations : List Station

-- whether a station waits, and whether its destination has a value
abbrev pub is_waiting : Mark → Bool
is_waiting Waiting = true
is_waiting Issued = false
is_waiting Done = false
is_waiting Faulted = false

abbrev pub is_done : Mark → Bool
is_done Waiting = false
is_done Issued = false
is_done Done = true
is_done Faulted = false

-- whether a destination is this register
abbrev pub is_register : ℕ → Option ℕ → Bool
is_register register None = false
is_register register (Some destination) = destination == register

-- Whether a register has a value: where an older station writes it, the youngest such station is done; else it is the
-- committed register, which has one. The older stations stand youngest first.
abbrev pub has_written_value : List Station → ℕ → Bool
has_written_value [] register = true
has_written_value (station ∷ older) register =
    if is_register register station.destination then is_done station.mark else has_written_value older register

-- whether a source has a value; where there is no source, nothing is waited for
abbrev pub has_operand : List Station → Option ℕ → Bool
has_operand older None = true
has_operand older (Some register) = has_written_value older register

-- whether both operands of a station have a value
abbrev pub has_operands : List Station → Station → Bool
has_operands older station = has_operand older station.first && has_operand older station.second

-- the stations older than the one at a place, the youngest first
abbrev pub older_than : ℕ → List Station → List Station
older_than place stations = reverse (take place stations)

-- whether the station at a place waits for nothing but a unit
abbrev pub can_begin : List Station → Option Station → Bool
can_begin older None = false
can_begin older (Some station) = is_waiting station.mark && has_operands older station

abbrev pub can_begin_at : List Station → ℕ → Bool
can_begin_at stations place = can_begin (older_than place stations) (slice_get stations place)

-- whether the station at a place executes
abbrev pub is_issued : Mark → Bool
is_issued Waiting = false
is_issued Issued = true
is_issued Done = false
is_issued Faulted = false

abbrev pub executes : Option Station → Bool
executes None = false
executes (Some station) = is_issued station.mark

abbrev pub executes_at : List Station → ℕ → Bool
executes_at stations place = executes (slice_get stations place)

-- whether the station at a place is one that a search looks for
abbrev pub is_sought_at : Sought → List Station → ℕ → Bool
is_sought_at Ready = can_begin_at
is_sought_at Executing = executes_at

-- the station that holds an index, and its mark
abbrev pub station_of : ℕ → List Station → Option Station
station_of index stations = find (λ station. station.index == index) stations

abbrev pub mark_of : ℕ → List Station → Option Mark
mark_of index stations = option_map (λ (station : Station). station.mark) (station_of index stations)

-- the index of the oldest station
abbrev pub oldest_index : List Station → Option ℕ
oldest_index stations = option_map (λ (station : Station). station.index) (slice_get stations 0)

-- its mark
abbrev pub oldest_mark : List Station → Option Mark
oldest_mark stations = option_map (λ (station : Station). station.mark) (slice_get stations 0)

-- a station, and all of them, with another mark on the one that holds an index
abbrev pub marked_if : ℕ → Mark → Station → Station
marked_if index mark station = if station.index == index then record station { mark = mark } else station

abbrev pub marked : ℕ → Mark → List Station → List Station
marked index mark stations = map (marked_if index mark) stations

-- a station as it enters
abbrev pub entered : ℕ → Option ℕ → Option ℕ → Option ℕ → Station
entered index first second destination = record { index = index; first = first; second = second; destination = destination; mark = Waiting }

-- how many stations wait
abbrev pub waiting_count : List Station → ℕ
waiting_count [] = 0
waiting_count (station ∷ stations) = (if is_waiting station.mark then 1 else 0) + waiting_count stations
