-- The oldest station retires.
use Rattle.std.proofs.Common.{◌≡◌, ◌≢◌, ℕ, ◌+◌, ◌<◌, ◌≤◌, ◌==◌, ◌||◌, Bool, true, false, if◌then◌else◌, Option, Some, None, List, [], ◌∷◌, ◌++◌, length, drop, get_or, reverse, refl, ap, sym, ◌∙◌, arith, eq-eqb, subst}
use Rattle.std.specs.Prelude.{slice_get, option_map}
use Rattle.std.proofs.lemmas.Bool.{ne_eqb}
use Rattle.std.proofs.lemmas.List.{get_or_read, append-nil, drop-map, reverse-append}
use Rattle.std.proofs.lemmas.Option.{slice_get-map, same_Some}
use Rattle.reservation_stations.specs.declared.station.Mark.{Mark}
use Rattle.reservation_stations.specs.declared.station.Mark.TheVariants.{Waiting, Issued, Done, Faulted}
use Rattle.reservation_stations.specs.declared.station.Station.{Station}
use Rattle.reservation_stations.specs.declared.row.Row.{Row}
use Rattle.reservation_stations.specs.Readiness.{Window, is_waiting, is_issued, is_done, is_register, oldest_index, oldest_mark, waiting_count}
use Rattle.reservation_stations.specs.AreTables.{AreTables, Each, row_at, free_row, stations_at, station_in, unfinished}
use Rattle.reservation_stations.specs.Changes.{without, with_producer, producer_at}
use Rattle.reservation_stations.specs.Places.{is_index}
use Rattle.reservation_stations.proofs.Indices.{Each-map, reverse-cons}
use Rattle.reservation_stations.proofs.Carried.{dropped, Changes, Carries, Carries-behind}
use Rattle.reservation_stations.proofs.Marking.{one_if}
use Rattle.reservation_stations.proofs.Producers.{length-with_producer, get_or-dropped, not_unfinished}
use Rattle.reservation_stations.proofs.Kept.{seen, one, dropped_one, or_false}
use Rattle.reservation_stations.proofs.Missing.{without-same}

pub waiting_count-push : (at : ℕ → Row) (indices : List ℕ) (index : ℕ) →
    waiting_count (stations_at at (indices ++ index ∷ [])) ≡ waiting_count (stations_at at indices) + (if is_waiting (at index).mark then 1 else 0)
waiting_count-push at [] index = omega arith
waiting_count-push at (other ∷ indices) index = omega (arith, waiting_count-push at indices index)

pub reverse-push : (indices : List ℕ) (index : ℕ) → reverse (indices ++ index ∷ []) ≡ index ∷ reverse indices
reverse-push indices index = reverse-append indices (index ∷ [])

first_index : (o : Option ℕ) (index : ℕ) (f : ℕ → Station) → ((s : ℕ) → (f s).index ≡ s) → option_map (λ (station : Station). station.index) (option_map f o) ≡ Some index → o ≡ Some index
first_index None index f keeps is = absurd cc
first_index (Some other) index f keeps is = ap Some (sym (keeps other)) ∙ is

-- one that is done neither waits nor executes
pub waits_not : (mark : Mark) → is_done mark ≡ true → is_waiting mark ≡ false
waits_not Waiting done = absurd cc
waits_not Issued done = refl
waits_not Done done = refl
waits_not Faulted done = refl

done_is : (mark : Mark) → is_done mark ≡ true → mark ≡ Done
done_is Waiting done = absurd cc
done_is Issued done = absurd cc
done_is Done done = refl
done_is Faulted done = absurd cc

pub executes_not : (mark : Mark) → is_done mark ≡ true → is_issued mark ≡ false
executes_not Waiting done = refl
executes_not Issued done = absurd cc
executes_not Done done = refl
executes_not Faulted done = refl

-- the oldest station is lost to those that waited for it
lost_oldest : (is done : Bool) (index : ℕ) → None ≡ dropped (one index) (if is then (if done then None else Some index) else None)
lost_oldest true true index = refl
lost_oldest true false index = rw (eq-eqb index index refl) refl
lost_oldest false done index = refl

or_apart : (b c : Bool) → c ≡ false → b ≡ (b || c)
or_apart b c is = or_false b ∙ ap (λ d. b || d) (sym is)

module _ (capacity : ℕ) (index : ℕ) (rest : List ℕ) (rows : List Row) (producers : List (Option ℕ)) (waiting waiting' : ℕ) (keeps : AreTables capacity (index ∷ rest) rows producers waiting) where
  Changes-behind : (other : ℕ) → other ≢ index → Changes (row_at rows) (row_at rows) (one index) other
  Changes-behind other differ = record {
    destination = refl;
    done = or_apart (is_done (row_at rows other).mark) (other == index) (ne_eqb other index differ);
  }

  pub each_behind : Each (Changes (row_at rows) (row_at rows) (one index)) rest
  each_behind = Each-map (λ other. other ≢ index) (Changes (row_at rows) (row_at rows) (one index)) Changes-behind rest keeps.distinct.0

  pub Carries-oldest : Carries (row_at rows) (row_at rows) (one index) (index ∷ []) []
  Carries-oldest = record {
    unfinished = λ register. lost_oldest (is_register register (row_at rows index).registers.destination) (is_done (row_at rows index).mark) index;
  }

  all_behind : Carries (row_at rows) (row_at rows) (one index) (reverse rest ++ index ∷ []) (reverse rest ++ [])
  all_behind = Carries-behind (row_at rows) (row_at rows) (one index) rest (index ∷ []) [] each_behind Carries-oldest

  producer_behind : (register : ℕ) → register < 256 →
      unfinished (stations_at (row_at rows) (reverse rest)) register ≡ without index (get_or producers register None)
  producer_behind register within =
      ap (λ xs. unfinished (stations_at (row_at rows) xs) register) (sym (append-nil (reverse rest)))
      ∙ all_behind.unfinished register
      ∙ dropped_one index (unfinished (stations_at (row_at rows) (reverse rest ++ index ∷ [])) register)
      ∙ ap (λ xs. without index (unfinished (stations_at (row_at rows) xs) register)) (sym (reverse-cons index rest))
      ∙ ap (without index) (sym (keeps.each_producer register within))

  AreTables-rest : get_or (with_producer (row_at rows index).registers.destination (without index (producer_at producers (row_at rows index).registers.destination)) producers) 256 None ≡ None →
      waiting' + (if is_waiting (row_at rows index).mark then 1 else 0) ≡ waiting →
      AreTables capacity rest rows (with_producer (row_at rows index).registers.destination (without index (producer_at producers (row_at rows index).registers.destination)) producers) waiting'
  AreTables-rest nothing left =
      let mine = (row_at rows index).registers.destination in
      let value = without index (producer_at producers mine) in
      record {
        limit = keeps.limit;
        within = keeps.within.1;
        distinct = keeps.distinct.1;
        every_index = keeps.every_index;
        every_register = length-with_producer mine value producers ∙ keeps.every_register;
        each_producer = λ register within.
            get_or-dropped (row_at rows) (reverse (index ∷ rest)) producers keeps.every_register keeps.each_producer index register within
            ∙ sym (producer_behind register within);
        no_source = nothing;
        count = omega (arith, keeps.count, left);
      }

  -- one that is done is no producer
  AreTables-rest_done : is_done (row_at rows index).mark ≡ true → is_waiting (row_at rows index).mark ≡ false → AreTables capacity rest rows producers waiting
  AreTables-rest_done done no_wait =
      let none = ap one_if no_wait in
      record {
        limit = keeps.limit;
        within = keeps.within.1;
        distinct = keeps.distinct.1;
        every_index = keeps.every_index;
        every_register = keeps.every_register;
        each_producer = λ register within.
            let other = ap (is_index index) (keeps.each_producer register within) ∙ not_unfinished index (row_at rows) (reverse (index ∷ rest)) register done in
            sym (without-same index (get_or producers register None) other) ∙ sym (producer_behind register within);
        no_source = keeps.no_source;
        count = omega (arith, keeps.count, none);
      }

head_is : (indices : List ℕ) (index : ℕ) → slice_get indices 0 ≡ Some index → indices ≡ index ∷ drop 1 indices
head_is [] index is = absurd cc
head_is (other ∷ indices) index is = ap (λ s. s ∷ indices) (same_Some other index is)

-- the index of the oldest, where that has a mark
pub marked_oldest : (stations : List Station) (mark : Mark) → oldest_mark stations ≡ Some mark → (index : ℕ) × (oldest_index stations ≡ Some index)
marked_oldest [] mark is = absurd cc
marked_oldest (station ∷ stations) mark is = (station.index, refl)

module _ {capacity : ℕ} {indices : List ℕ} {rows : List Row} {producers : List (Option ℕ)} {waiting : ℕ} (keeps : AreTables capacity indices rows producers waiting) {w : Window} (is_seen : seen capacity indices rows ≡ w) (mark : Mark) (is : oldest_mark w.stations ≡ Some mark) where
  pub oldest_marked : (index : ℕ) × (oldest_index w.stations ≡ Some index)
  oldest_marked = marked_oldest w.stations mark is

module _ {capacity : ℕ} {indices : List ℕ} {rows : List Row} {producers : List (Option ℕ)} {waiting : ℕ} (keeps : AreTables capacity indices rows producers waiting) {w : Window} (is_seen : seen capacity indices rows ≡ w) (index : ℕ) (oldest : oldest_index w.stations ≡ Some index) where
  pub is_first : indices ≡ index ∷ drop 1 indices
  is_first =
      let there : oldest_index (stations_at (row_at rows) indices) ≡ Some index = ap (λ (v : Window). oldest_index v.stations) is_seen ∙ oldest in
      head_is indices index (first_index (slice_get indices 0) index (λ s. station_in s (row_at rows s)) (λ s. refl)
      (ap (option_map (λ (station : Station). station.index)) (sym (slice_get-map (λ s. station_in s (row_at rows s)) indices 0)) ∙ there))

  pub first_keeps : AreTables capacity (index ∷ drop 1 indices) rows producers waiting
  first_keeps = subst (λ xs. AreTables capacity xs rows producers waiting) is_first keeps

  pub retire_some : 0 < length indices
  retire_some = omega (arith, ap length is_first)

  pub retire_within : index < length rows
  retire_within = omega (arith, first_keeps.within.0, keeps.every_index)

  -- its row has its mark
  pub oldest_row : (mark : Mark) → oldest_mark w.stations ≡ Some mark → (row_at rows index).mark ≡ mark
  oldest_row mark is =
      let there : oldest_mark (stations_at (row_at rows) (index ∷ drop 1 indices)) ≡ Some mark =
      ap (λ xs. oldest_mark (stations_at (row_at rows) xs)) (sym is_first) ∙ ap (λ (v : Window). oldest_mark v.stations) is_seen ∙ is in
      same_Some (row_at rows index).mark mark there

  pub AreTables-first_done : is_done (row_at rows index).mark ≡ true → AreTables capacity (drop 1 indices) rows producers waiting
  AreTables-first_done is = AreTables-rest_done capacity index (drop 1 indices) rows producers waiting waiting first_keeps is (waits_not (row_at rows index).mark is)

  module _ (row : Row) (read : row ≡ get_or rows index row) where
    pub retired_row : row ≡ row_at rows index
    retired_row = get_or_read rows index row retire_within read free_row

    pub retire_counted : (if is_waiting row.mark then 1 else 0) ≤ waiting
    retire_counted = rw retired_row (omega (arith, first_keeps.count))

    pub AreTables-retired : (table : List (Option ℕ)) (waiting' : ℕ) →
        table ≡ with_producer row.registers.destination (without index (producer_at producers row.registers.destination)) producers →
        get_or table 256 None ≡ get_or producers 256 None → waiting' + (if is_waiting row.mark then 1 else 0) ≡ waiting → AreTables capacity (drop 1 indices) rows table waiting'
    AreTables-retired table waiting' dropped apart left =
        let left_by : waiting' + (if is_waiting (row_at rows index).mark then 1 else 0) ≡ waiting = subst (λ (e : Row). waiting' + (if is_waiting e.mark then 1 else 0) ≡ waiting) retired_row left in
        let mine : Row → List (Option ℕ) = λ e. with_producer e.registers.destination (without index (producer_at producers e.registers.destination)) producers in
        let nothing : get_or (mine (row_at rows index)) 256 None ≡ None = ap (λ xs. get_or xs 256 None) (sym (dropped ∙ ap mine retired_row)) ∙ apart ∙ keeps.no_source in
        rw (dropped, retired_row) (AreTables-rest capacity index (drop 1 indices) rows producers waiting waiting' first_keeps nothing left_by)

    -- so has the oldest station, where its row is done
    pub retired_done : is_done row.mark ≡ true → oldest_mark w.stations ≡ Some Done
    retired_done done =
        ap (λ (v : Window). oldest_mark v.stations) (sym is_seen) ∙ ap (λ xs. oldest_mark (stations_at (row_at rows) xs)) is_first
        ∙ ap (λ (e : Row). Some e.mark) (sym retired_row) ∙ ap Some (done_is row.mark done)

  pub seen-retired : seen capacity (drop 1 indices) rows ≡ record w { stations = drop 1 w.stations }
  seen-retired =
      (λ i. record { capacity = capacity; stations = sym (drop-map (λ s. station_in s (row_at rows s)) 1 indices) i })
      ∙ ap (λ (v : Window). record v { stations = drop 1 v.stations }) is_seen
