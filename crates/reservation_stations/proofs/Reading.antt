-- What is read of the tables: what is awaited, and the indices.
use Rattle.std.proofs.Common.{◌≡◌, ◌≢◌, ℕ, zero, suc, ◌<◌, ◌||◌, ◌&&◌, Bool, true, false, if◌then◌else◌, Option, Some, None, is_none, is_some, not, List, [], ◌∷◌, length, take, get_or, reverse, refl, ap, sym, ◌∙◌, arith, subst}
use Rattle.std.specs.Prelude.{All, AllPairs}
use Rattle.std.specs.Option.{ForSome}
use Rattle.std.proofs.lemmas.List.{take-map, length-map}
use Rattle.reservation_stations.specs.declared.station.Station.{Station}
use Rattle.reservation_stations.specs.declared.row.Row.{Row}
use Rattle.reservation_stations.specs.Readiness.{Window, is_done, is_register, has_written_value, has_operand, has_operands, older_than}
use Rattle.reservation_stations.specs.AreTables.{AreTables, Each, AreDistinct, row_at, stations_at, station_in, unfinished, awaited}
use Rattle.reservation_stations.proofs.Indices.{Each-push, reverse-cons, reverse-map}
use Rattle.reservation_stations.proofs.Producers.{awaited-held}
use Rattle.reservation_stations.proofs.Kept.{seen}

-- a register has a value exactly where nothing is awaited for it
value_by : (b done : Bool) (index : ℕ) (value : Bool) (awaited_one : Option ℕ) → value ≡ is_none awaited_one →
    (if b then done else value) ≡ is_none (if b then (if done then None else Some index) else awaited_one)
value_by true true index value o is = refl
value_by true false index value o is = refl
value_by false done index value o is = is

has_written_value-awaited : (older : List Station) (register : ℕ) → has_written_value older register ≡ is_none (unfinished older register)
has_written_value-awaited [] register = refl
has_written_value-awaited (station ∷ older) register =
    value_by (is_register register station.destination) (is_done station.mark) station.index (has_written_value older register) (unfinished older register) (has_written_value-awaited older register)

has_operand-awaited : (older : List Station) (source : Option ℕ) → has_operand older source ≡ is_none (awaited older source)
has_operand-awaited older None = refl
has_operand-awaited older (Some register) = has_written_value-awaited older register

some_or : {X : Type 0} (a b : Option X) → not (is_some a || is_some b) ≡ (is_none a && is_none b)
some_or None None = refl
some_or None (Some y) = refl
some_or (Some x) b = refl

-- a station has its operands exactly where it misses none
pub has_operands-missing : (older : List Station) (station : Station) →
    not (is_some (awaited older station.first) || is_some (awaited older station.second)) ≡ has_operands older station
has_operands-missing older station =
    some_or (awaited older station.first) (awaited older station.second)
    ∙ λ i. sym (has_operand-awaited older station.first) i && sym (has_operand-awaited older station.second) i

-- the older stations at a place
pub older_than-at : (at : ℕ → Row) (indices : List ℕ) (place : ℕ) → older_than place (stations_at at indices) ≡ stations_at at (reverse (take place indices))
older_than-at at indices place =
    ap reverse (take-map (λ index. station_in index (at index)) place indices) ∙ reverse-map (λ index. station_in index (at index)) (take place indices)

pub Each-reverse : (P : ℕ → Type 0) (indices : List ℕ) → Each P indices → Each P (reverse indices)
Each-reverse P [] each = tt
Each-reverse P (index ∷ indices) each = rw (reverse-cons index indices) (Each-push P (reverse indices) index (Each-reverse P indices each.1) each.0)

pub reverse-stations_at : (at : ℕ → Row) (indices : List ℕ) → reverse (stations_at at indices) ≡ stations_at at (reverse indices)
reverse-stations_at at indices = reverse-map (λ index. station_in index (at index)) indices

All-from_each : (at : ℕ → Row) (P : ℕ → Type 0) (indices : List ℕ) → Each P indices → (k : ℕ) (d : Station) → k < length (stations_at at indices) →
    P (get_or (stations_at at indices) k d).index
All-from_each at P [] each k d within = absurd (omega arith)
All-from_each at P (index ∷ indices) each zero d within = each.0
All-from_each at P (index ∷ indices) each (suc k) d within = All-from_each at P indices each.1 k d (omega arith)

AllPairs-from_distinct : (at : ℕ → Row) (indices : List ℕ) → AreDistinct indices → (i j : ℕ) (d : Station) → i < j → j < length (stations_at at indices) →
    (get_or (stations_at at indices) i d).index ≢ (get_or (stations_at at indices) j d).index
AllPairs-from_distinct at [] distinct i j d before within = absurd (omega arith)
AllPairs-from_distinct at (index ∷ indices) distinct i zero d before within = absurd (omega arith)
AllPairs-from_distinct at (index ∷ indices) distinct zero (suc j) d before within =
    λ same. All-from_each at (λ other. other ≢ index) indices distinct.0 j d (omega arith) (sym same)
AllPairs-from_distinct at (index ∷ indices) distinct (suc i) (suc j) d before within =
    AllPairs-from_distinct at indices distinct.1 i j d (omega arith) (omega arith)

module _ {capacity : ℕ} {indices : List ℕ} {rows : List Row} {producers : List (Option ℕ)} {waiting : ℕ} (keeps : AreTables capacity indices rows producers waiting) {w : Window} (is_seen : seen capacity indices rows ≡ w) where
  pub reverse_seen : reverse w.stations ≡ stations_at (row_at rows) (reverse indices)
  reverse_seen = ap (λ (v : Window). reverse v.stations) (sym is_seen) ∙ reverse-stations_at (row_at rows) indices

  pub length_seen : length w.stations ≡ length indices
  length_seen = ap (λ (v : Window). length v.stations) (sym is_seen) ∙ length-map indices (λ s. station_in s (row_at rows s))

  -- what is awaited of the stations that stand there
  pub awaited_seen : (source : Option ℕ) → awaited (stations_at (row_at rows) (reverse indices)) source ≡ awaited (reverse w.stations) source
  awaited_seen source = ap (λ xs. awaited xs source) (sym reverse_seen)

  pub all_awaited : (source : Option ℕ) → ForSome (awaited (stations_at (row_at rows) (reverse indices)) source) (λ index. index < capacity)
  all_awaited source = awaited-held (row_at rows) (λ index. index < capacity) (reverse indices) source (Each-reverse (λ index. index < capacity) indices keeps.within)

  -- indices in the list
  pub all_within : All (λ station. station.index < w.capacity) w.stations
  all_within =
      subst (λ (v : Window). All (λ station. station.index < v.capacity) v.stations) is_seen (All-from_each (row_at rows) (λ index. index < capacity) indices keeps.within)

  pub all_distinct : AllPairs (λ older younger. older.index ≢ younger.index) w.stations
  all_distinct =
      subst (λ (v : Window). AllPairs (λ older younger. older.index ≢ younger.index) v.stations) is_seen (AllPairs-from_distinct (row_at rows) indices keeps.distinct)
