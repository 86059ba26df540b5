-- A station enters.
use Rattle.std.proofs.Common.{◌≡◌, ◌≢◌, ℕ, ◌+◌, ◌^◌, ◌<◌, ◌≤◌, ◌==◌, ◌||◌, Bool, true, false, if◌then◌else◌, Option, Some, None, List, [], ◌∷◌, ◌++◌, length, get_or, reverse, refl, ap, sym, ◌∙◌, inl, inr, arith, eq-eqb, subst}
use Rattle.std.specs.Prelude.{slice_set, IsNone}
use Rattle.std.specs.List.{AllByRecursion, IsDistinct, list_any}
use Rattle.std.proofs.lemmas.Bool.{cases_eq, ne_eqb}
use Rattle.std.proofs.lemmas.List.{length-set, map_push}
use Rattle.std.proofs.lemmas.Map.Steps.{length-le_from_distinct_below}
use Rattle.reservation_stations.specs.declared.station.Mark.{Mark}
use Rattle.reservation_stations.specs.declared.station.Mark.TheVariants.{Waiting, Issued, Done, Faulted}
use Rattle.reservation_stations.specs.declared.station.Station.{Station}
use Rattle.reservation_stations.specs.declared.row.Row.{Row}
use Rattle.reservation_stations.specs.Readiness.{Window, is_waiting, is_done, is_register, station_of, waiting_count}
use Rattle.reservation_stations.specs.AreTables.{AreTables, Each, AreDistinct, row_at, stations_at, station_in, unfinished}
use Rattle.reservation_stations.specs.Changes.{with_producer}
use Rattle.reservation_stations.proofs.Indices.{Each-map, Each-push, AreDistinct-push, station_of-free}
use Rattle.reservation_stations.proofs.Marking.{row_at-set, Stays, stations_at-same}
use Rattle.reservation_stations.proofs.Producers.{get_or-with_producer, length-with_producer}
use Rattle.reservation_stations.proofs.Kept.{seen}
use Rattle.reservation_stations.proofs.Reading.{Each-reverse}
use Rattle.reservation_stations.proofs.Leaving.{waiting_count-push, reverse-push}

-- indices below a number, no two of them equal, are at most that many
apart : (index : ℕ) (indices : List ℕ) → Each (λ other. other ≢ index) indices → AllByRecursion (λ other. (index == other) ≡ false) indices
apart index [] each = tt
apart index (other ∷ indices) each = (ne_eqb index other (λ e. each.0 (sym e)), apart index indices each.1)

IsDistinct-from : (indices : List ℕ) → AreDistinct indices → IsDistinct (λ a b. a == b) indices
unfolding IsDistinct
IsDistinct-from [] distinct = tt
IsDistinct-from (index ∷ indices) distinct = (apart index indices distinct.0, IsDistinct-from indices distinct.1)

below_from : (n q : ℕ) (indices : List ℕ) → Each (λ index. index < n) indices → list_any (λ index. q == index) indices ≡ true → q < n
below_from n q [] each there = absurd cc
below_from n q (index ∷ indices) each there = elim (cases_eq q index) [
  | inl same ↦ omega (arith, each.0)
  | inr differ ↦
      let rest : ((q == index) || list_any (λ s. q == s) indices) ≡ true = there in
      below_from n q indices each.1 (rw (ne_eqb q index differ) at rest)
]

pub few : (n : ℕ) (indices : List ℕ) → AreDistinct indices → Each (λ index. index < n) indices → length indices ≤ n
few n indices distinct each = length-le_from_distinct_below indices n (IsDistinct-from indices distinct) (λ q there. below_from n q indices each there)

abbrev one_if : Bool → ℕ
one_if b = if b then 1 else 0

one_at_most : (b : Bool) → (if b then 1 else 0) ≤ 1
one_at_most true = omega arith
one_at_most false = omega arith

pub waiting_few : (at : ℕ → Row) (indices : List ℕ) → waiting_count (stations_at at indices) ≤ length indices
waiting_few at [] = omega arith
waiting_few at (index ∷ indices) = omega (arith, one_at_most (is_waiting (at index).mark), waiting_few at indices)

-- one that waits isn't done
not_done : (mark : Mark) → is_waiting mark ≡ true → is_done mark ≡ false
not_done Waiting waits = refl
not_done Issued waits = refl
not_done Done waits = absurd cc
not_done Faulted waits = refl

module _ (capacity : ℕ) (indices : List ℕ) (old : List Row) (producers : List (Option ℕ)) (waiting : ℕ) (keeps : AreTables capacity indices old producers waiting) (index : ℕ) (within : index < capacity) (fresh : Each (λ other. other ≢ index) indices) (row : Row) where
  inside : index < length old
  inside = omega (arith, keeps.every_index)

  same_row : (other : ℕ) → other ≢ index → row_at (slice_set old index row) other ≡ row_at old other
  same_row other differ = row_at-set old index row inside other ∙ ap (λ b. if b then row else row_at old other) (ne_eqb other index differ)

  mine : row_at (slice_set old index row) index ≡ row
  mine = row_at-set old index row inside index ∙ ap (λ b. if b then row else row_at old index) (eq-eqb index index refl)

  Stays-none : (other : ℕ) → other ≢ index → Stays (row_at old) (row_at (slice_set old index row)) other
  Stays-none other differ =
      let same = same_row other differ in
      record {
        registers = ap (λ (e : Row). e.registers) same;
        mark = ap (λ (e : Row). e.mark) same;
      }

  stations_stay : stations_at (row_at (slice_set old index row)) indices ≡ stations_at (row_at old) indices
  stations_stay = stations_at-same (row_at old) (row_at (slice_set old index row)) indices (Each-map (λ other. other ≢ index) (Stays (row_at old) (row_at (slice_set old index row))) Stays-none indices fresh)

  older_stay : stations_at (row_at (slice_set old index row)) (reverse indices) ≡ stations_at (row_at old) (reverse indices)
  older_stay = stations_at-same (row_at old) (row_at (slice_set old index row)) (reverse indices) (Each-map (λ other. other ≢ index) (Stays (row_at old) (row_at (slice_set old index row))) Stays-none (reverse indices) (Each-reverse (λ other. other ≢ index) indices fresh))

  stations_pushed : stations_at (row_at (slice_set old index row)) (indices ++ index ∷ []) ≡ stations_at (row_at old) indices ++ station_in index row ∷ []
  stations_pushed =
      map_push (λ s. station_in s (row_at (slice_set old index row) s)) indices index
      ∙ λ i. stations_stay i ++ station_in index (mine i) ∷ []

  AreTables-pushed : is_waiting row.mark ≡ true → get_or (with_producer row.registers.destination (Some index) producers) 256 None ≡ None →
      AreTables capacity (indices ++ index ∷ []) (slice_set old index row) (with_producer row.registers.destination (Some index) producers) (waiting + 1)
  AreTables-pushed waits nothing =
      let at' = row_at (slice_set old index row) in
      let counted = waiting_count-push at' indices index in
      let same : waiting_count (stations_at at' indices) ≡ waiting = ap waiting_count stations_stay ∙ sym keeps.count in
      let one_more = ap one_if (ap (λ (e : Row). is_waiting e.mark) mine ∙ waits) in
      record {
        limit = keeps.limit;
        within = Each-push (λ s. s < capacity) indices index keeps.within within;
        distinct = AreDistinct-push indices index keeps.distinct fresh;
        every_index = length-set old index row ∙ keeps.every_index;
        every_register = length-with_producer row.registers.destination (Some index) producers ∙ keeps.every_register;
        each_producer = λ register below.
            get_or-with_producer row.registers.destination (Some index) producers register keeps.every_register below
            ∙ ap (λ o. if is_register register row.registers.destination then Some index else o) (keeps.each_producer register below ∙ ap (λ xs. unfinished xs register) (sym older_stay))
            ∙ ap (λ b. if is_register register row.registers.destination then (if b then None else Some index) else unfinished (stations_at at' (reverse indices)) register) (sym (not_done row.mark waits))
            ∙ ap (λ (e : Row). if is_register register e.registers.destination then (if is_done e.mark then None else Some index) else unfinished (stations_at at' (reverse indices)) register) (sym mine)
            ∙ ap (λ xs. unfinished (stations_at at' xs) register) (sym (reverse-push indices index));
        no_source = nothing;
        count = omega (arith, counted, same, one_more);
      }

none_from : (o : Option Station) → IsNone o → o ≡ None
none_from None is = refl
none_from (Some station) is = absurd cc

module _ {capacity : ℕ} {indices : List ℕ} {rows : List Row} {producers : List (Option ℕ)} {waiting : ℕ} (keeps : AreTables capacity indices rows producers waiting) {w : Window} (is_seen : seen capacity indices rows ≡ w) (index : ℕ) (within : index < w.capacity) (free : IsNone (station_of index w.stations)) where
  inside_window : index < capacity
  inside_window = omega (arith, within, ap (λ (v : Window). v.capacity) is_seen)

  pub is_fresh : Each (λ other. other ≢ index) indices
  is_fresh = station_of-free (row_at rows) indices index (none_from (station_of index (stations_at (row_at rows) indices)) (subst (λ (v : Window). IsNone (station_of index v.stations)) (sym is_seen) free))

  pub room : length indices < capacity
  room = omega (arith, few capacity (index ∷ indices) (is_fresh, keeps.distinct) (inside_window, keeps.within))

  pub waiting_fits : waiting + 1 < 2 ^ 32
  waiting_fits = omega (arith, room, keeps.limit, keeps.count, waiting_few (row_at rows) indices)

  module _ (row : Row) where
    pub AreTables-entered : (table : List (Option ℕ)) → is_waiting row.mark ≡ true → table ≡ with_producer row.registers.destination (Some index) producers →
        get_or table 256 None ≡ get_or producers 256 None → AreTables capacity (indices ++ index ∷ []) (slice_set rows index row) table (waiting + 1)
    AreTables-entered table is_waits set apart =
        rw set (AreTables-pushed capacity indices rows producers waiting keeps index inside_window is_fresh row is_waits
        (ap (λ xs. get_or xs 256 None) (sym set) ∙ apart ∙ keeps.no_source))

    pub seen-entered : seen capacity (indices ++ index ∷ []) (slice_set rows index row) ≡ record w { stations = w.stations ++ station_in index row ∷ [] }
    seen-entered =
        (λ i. record { capacity = capacity; stations = stations_pushed capacity indices rows producers waiting keeps index inside_window is_fresh row i })
        ∙ ap (λ (v : Window). record v { stations = v.stations ++ station_in index row ∷ [] }) is_seen

-- there are at most as many stations as indices
module _ {capacity : ℕ} {indices : List ℕ} {rows : List Row} {producers : List (Option ℕ)} {waiting : ℕ} (keeps : AreTables capacity indices rows producers waiting) where
  pub all_room : length indices ≤ capacity
  all_room = few capacity indices keeps.distinct keeps.within

  pub all_few : length indices ≤ 256
  all_few = omega (arith, all_room, keeps.limit)

-- rows are as many as indices
pub own_tables : {capacity : ℕ} {indices : List ℕ} {rows : List Row} {producers : List (Option ℕ)} {waiting : ℕ} → AreTables capacity indices rows producers waiting →
    AreTables (length rows) indices rows producers waiting
own_tables {indices = indices} {rows = rows} {producers = producers} {waiting = waiting} keeps = subst (λ n. AreTables n indices rows producers waiting) (sym keeps.every_index) keeps

pub own_seen : (capacity : ℕ) (indices : List ℕ) (rows : List Row) {w : Window} → length rows ≡ capacity → seen capacity indices rows ≡ w → seen (length rows) indices rows ≡ w
own_seen capacity indices rows same is = ap (λ n. seen n indices rows) same ∙ is
