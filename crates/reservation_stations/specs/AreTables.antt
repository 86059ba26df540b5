-- What the tables of the stations stand for: the indices from the oldest to the youngest, a row for each index, and for
-- each register the index of its producer, until that is done.
use Rattle.std.specs.Prelude.{◌≡◌, ◌≢◌, ℕ, ◌<◌, ◌≤◌, if◌then◌else◌, Option, Some, None, List, [], ◌∷◌, length, map, reverse, get_or}
use Rattle.reservation_stations.specs.declared.station.Mark.TheVariants.{Done}
use Rattle.reservation_stations.specs.declared.station.Station.{Station}
use Rattle.reservation_stations.specs.declared.row.Row.{Row}
use Rattle.reservation_stations.specs.Readiness.{is_done, is_register, waiting_count}

-- the row of an index that was never held
abbrev pub free_row : Row
free_row = record {
  registers = record { sources = (None, None); destination = None };
  mark = Done;
  turn = 0;
}

-- the row of an index
abbrev pub row_at : List Row → ℕ → Row
row_at rows index = get_or rows index free_row

-- the station that a row keeps
abbrev pub station_in : ℕ → Row → Station
station_in index row =
    record { index = index; first = row.registers.sources.0; second = row.registers.sources.1; destination = row.registers.destination; mark = row.mark }

-- the stations of some indices
abbrev pub stations_at : (ℕ → Row) → List ℕ → List Station
stations_at at indices = map (λ index. station_in index (at index)) indices

-- the index that a register's value is awaited from: that of the youngest of some older stations that writes it, where it
-- isn't done. They stand youngest first.
abbrev pub unfinished : List Station → ℕ → Option ℕ
unfinished [] register = None
unfinished (station ∷ older) register =
    if is_register register station.destination
    then (if is_done station.mark then None else Some station.index)
    else unfinished older register

abbrev pub awaited : List Station → Option ℕ → Option ℕ
awaited older None = None
awaited older (Some register) = unfinished older register

-- the producers of some stations, the youngest first: for each register the index that its value is awaited from
abbrev pub AreProducers : List (Option ℕ) → List Station → Type 0
AreProducers producers older = (register : ℕ) → register < 256 → get_or producers register None ≡ unfinished older register

-- what holds of each of some indices
abbrev pub Each : (ℕ → Type 0) → List ℕ → Type 0
Each P [] = Unit {0}
Each P (index ∷ indices) = P index × Each P indices

-- no two of them are equal
abbrev pub AreDistinct : List ℕ → Type 0
AreDistinct [] = Unit {0}
AreDistinct (index ∷ indices) = Each (λ other. other ≢ index) indices × AreDistinct indices

-- the tables of a window of so many indices
pub record AreTables (capacity : ℕ) (indices : List ℕ) (rows : List Row) (producers : List (Option ℕ)) (waiting : ℕ) : Type 0 where
  pub limit : capacity ≤ 256
  pub within : Each (λ index. index < capacity) indices
  pub distinct : AreDistinct indices
  pub every_index : length rows ≡ capacity
  pub every_register : length producers ≡ 258
  pub each_producer : AreProducers producers (stations_at (row_at rows) (reverse indices))
  -- where a source of no register reads
  pub no_source : get_or producers 256 None ≡ None
  pub count : waiting ≡ waiting_count (stations_at (row_at rows) indices)
