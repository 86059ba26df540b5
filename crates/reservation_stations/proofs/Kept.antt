-- What the tables stand for, before and behind each call.
use Rattle.std.proofs.Common.{◌≡◌, ◌≢◌, ℕ, ◌+◌, ◌-◌, ◌<◌, ◌≤◌, ◌==◌, ◌||◌, Bool, true, false, if◌then◌else◌, Option, Some, None, List, [], length, get_or, is_some, reverse, refl, ap, sym, ◌∙◌, inl, inr, arith, eq-eqb, subst}
use Rattle.std.specs.Prelude.{slice_set}
use Rattle.std.proofs.lemmas.Bool.{cases_eq, ne_eqb}
use Rattle.std.proofs.lemmas.List.{length-set, append-nil, get_or_read}
use Rattle.reservation_stations.specs.declared.station.Mark.{Mark}
use Rattle.reservation_stations.specs.declared.station.Registers.{Registers}
use Rattle.reservation_stations.specs.declared.row.Row.{Row}
use Rattle.reservation_stations.specs.Readiness.{Window, is_waiting, is_done, station_of, mark_of, marked, waiting_count}
use Rattle.reservation_stations.specs.AreTables.{AreTables, Each, row_at, free_row, stations_at}
use Rattle.reservation_stations.specs.Changes.{without, with_producer, producer_at}
use Rattle.reservation_stations.proofs.Indices.{Each-map}
use Rattle.reservation_stations.proofs.Carried.{dropped, Changes, Carries, Carries-behind}
use Rattle.reservation_stations.proofs.Marking.{row_at-set, with_mark_of, mark_of-held, Marks, stations_at-marked, waiting_count-same, waiting_count-one_less}
use Rattle.reservation_stations.proofs.Producers.{length-with_producer, get_or-dropped, never_unfinished}
use Rattle.reservation_stations.specs.Places.{is_index}
use Rattle.reservation_stations.proofs.Missing.{without-same}

abbrev pub none : ℕ → Bool
none index = false

pub dropped_none : (o : Option ℕ) → dropped none o ≡ o
dropped_none None = refl
dropped_none (Some index) = refl

abbrev pub one : ℕ → ℕ → Bool
one index other = other == index

pub dropped_one : (index : ℕ) (o : Option ℕ) → dropped (one index) o ≡ without index o
dropped_one index None = refl
dropped_one index (Some other) = refl

pub or_false : (b : Bool) → b ≡ (b || false)
or_false true = refl
or_false false = refl

-- nothing stands before the oldest
module _ (at at' : ℕ → Row) (lost : ℕ → Bool) where
  pub Carries-none : Carries at at' lost [] []
  Carries-none = record { unfinished = λ register. refl }

-- where the list of indices stays: the lost ones are producers no more
module _ (capacity : ℕ) (indices : List ℕ) (old new : List Row) (producers table : List (Option ℕ)) (waiting waiting' : ℕ) (lost : ℕ → Bool) where
  AreTables-changed : AreTables capacity indices old producers waiting → length new ≡ length old → Each (Changes (row_at old) (row_at new) lost) indices →
      length table ≡ length producers → ((register : ℕ) → register < 256 → get_or table register None ≡ dropped lost (get_or producers register None)) →
      get_or table 256 None ≡ None → waiting' ≡ waiting_count (stations_at (row_at new) indices) → AreTables capacity indices new table waiting'
  AreTables-changed keeps same each long are nothing count =
      let at = row_at old in
      let at' = row_at new in
      let behind : Carries at at' lost (reverse indices) (reverse indices) =
      subst (λ xs. Carries at at' lost xs xs) (append-nil (reverse indices)) (Carries-behind at at' lost indices [] [] each (Carries-none at at' lost)) in
      record {
        limit = keeps.limit;
        within = keeps.within;
        distinct = keeps.distinct;
        every_index = same ∙ keeps.every_index;
        every_register = long ∙ keeps.every_register;
        each_producer = λ register within. are register within ∙ ap (dropped lost) (keeps.each_producer register within) ∙ sym (behind.unfinished register);
        no_source = nothing;
        count = count;
      }

-- another mark on one station
module _ (rows : List Row) (index : ℕ) (mark : Mark) (row : Row) (within : index < length rows) (is : row ≡ row_at rows index) where
  abbrev with_mark : Row
  with_mark = record row { mark = mark }

  abbrev written : List Row
  written = slice_set rows index with_mark

  mark_by : (b : Bool) (e : Row) → (if b then with_mark else e).mark ≡ (if b then mark else e.mark)
  mark_by true e = refl
  mark_by false e = refl

  same_by : {X : Type 0} (f : Row → X) (b : Bool) (e : Row) → f with_mark ≡ f e → f (if b then with_mark else e) ≡ f e
  same_by f true e same = same
  same_by f false e same = refl

  field : {X : Type 0} (f : Row → X) → f with_mark ≡ f row → (other : ℕ) → f (row_at written other) ≡ f (row_at rows other)
  field f kept other = ap f (row_at-set rows index with_mark within other) ∙ elim (cases_eq other index) [
    | inl same ↦ same_by f (other == index) (row_at rows other) (kept ∙ ap f is ∙ ap (λ s. f (row_at rows s)) (sym same))
    | inr differ ↦ ap (λ b. f (if b then with_mark else row_at rows other)) (ne_eqb other index differ)
  ]

  pub Marks-written : (other : ℕ) → Marks (row_at rows) (row_at written) index mark other
  Marks-written other = record {
    registers = field (λ e. e.registers) refl other;
    mark = ap (λ (e : Row). e.mark) (row_at-set rows index with_mark within other) ∙ mark_by (other == index) (row_at rows other);
  }

  -- it is lost where it is done now and wasn't
  lost_by : (lost : ℕ → Bool) → ((other : ℕ) → other ≢ index → lost other ≡ false) → is_done mark ≡ (is_done (row_at rows index).mark || lost index) →
      (other : ℕ) → is_done (row_at written other).mark ≡ (is_done (row_at rows other).mark || lost other)
  lost_by lost others here other = ap is_done (Marks-written other).mark ∙ elim (cases_eq other index) [
    | inl same ↦
        ap (λ b. is_done (if b then mark else (row_at rows other).mark)) (eq-eqb other index same) ∙ here
        ∙ ap (λ s. is_done (row_at rows s).mark || lost s) (sym same)
    | inr differ ↦
        ap (λ b. is_done (if b then mark else (row_at rows other).mark)) (ne_eqb other index differ) ∙ or_false (is_done (row_at rows other).mark)
        ∙ ap (λ b. is_done (row_at rows other).mark || b) (sym (others other differ))
  ]

  pub Changes-written : (lost : ℕ → Bool) → ((other : ℕ) → other ≢ index → lost other ≡ false) → is_done mark ≡ (is_done (row_at rows index).mark || lost index) →
      (other : ℕ) → Changes (row_at rows) (row_at written) lost other
  Changes-written lost others here other = record {
    destination = ap (λ (r : Registers). r.destination) (Marks-written other).registers;
    done = lost_by lost others here other;
  }

-- what contracts see of the tables
abbrev pub seen : ℕ → List ℕ → List Row → Window
seen capacity indices rows = record { capacity = capacity; stations = stations_at (row_at rows) indices }

module _ {capacity : ℕ} {indices : List ℕ} {rows : List Row} {producers : List (Option ℕ)} {waiting : ℕ} (keeps : AreTables capacity indices rows producers waiting) {w : Window} (is_seen : seen capacity indices rows ≡ w) where
  pub held_with : (index : ℕ) (mark : Mark) → mark_of index w.stations ≡ Some mark → (index < length rows) × ((row_at rows index).mark ≡ mark)
  held_with index mark is =
      let found = mark_of-held (row_at rows) (λ s. s < capacity) indices index mark keeps.within (ap (λ (v : Window). mark_of index v.stations) is_seen ∙ is) in
      (omega (arith, found.0, keeps.every_index), found.1)

  module _ (index : ℕ) (mark next : Mark) (before : mark_of index w.stations ≡ Some mark) (row : Row) (read : row ≡ get_or rows index row) where
    pub is : row ≡ row_at rows index
    is = get_or_read rows index row (held_with index mark before).0 read free_row

    pub seen-marked : (new : List Row) → Each (Marks (row_at rows) (row_at new) index next) indices →
        seen capacity indices new ≡ record w { stations = marked index next w.stations }
    seen-marked new each =
        (λ i. record { capacity = capacity; stations = stations_at-marked (row_at rows) (row_at new) index next indices each i })
        ∙ ap (λ (v : Window). record v { stations = marked index next v.stations }) is_seen

    abbrev new_rows : List Row
    new_rows = slice_set rows index (record row { mark = next })

    each_marked : Each (Marks (row_at rows) (row_at new_rows) index next) indices
    each_marked =
        Each-map (λ s. s < capacity) (Marks (row_at rows) (row_at new_rows) index next) (λ other h. Marks-written rows index next row (held_with index mark before).0 is other) indices keeps.within

    pub seen-written : seen capacity indices new_rows ≡ record w { stations = marked index next w.stations }
    seen-written = seen-marked new_rows each_marked

    -- those that are done now and weren't are lost to those that await their values
    pub each_changed : (lost : ℕ → Bool) → ((other : ℕ) → other ≢ index → lost other ≡ false) → is_done next ≡ (is_done mark || lost index) →
        Each (Changes (row_at rows) (row_at new_rows) lost) indices
    each_changed lost others alike =
        let here = held_with index mark before in
        Each-map (λ s. s < capacity) (Changes (row_at rows) (row_at new_rows) lost)
        (λ other h. Changes-written rows index next row here.0 is lost others (alike ∙ ap (λ m. is_done m || lost index) (sym here.1)) other) indices keeps.within

    keeps_written : (table : List (Option ℕ)) (lost : ℕ → Bool) → ((other : ℕ) → other ≢ index → lost other ≡ false) → is_done next ≡ (is_done mark || lost index) →
        length table ≡ length producers → ((register : ℕ) → register < 256 → get_or table register None ≡ dropped lost (get_or producers register None)) →
        get_or table 256 None ≡ None → (waiting' : ℕ) → waiting' ≡ waiting_count (stations_at (row_at new_rows) indices) → AreTables capacity indices new_rows table waiting'
    keeps_written table lost others alike long are nothing waiting' count =
        AreTables-changed capacity indices rows new_rows producers table waiting waiting' lost keeps (length-set rows index (record row { mark = next })) (each_changed lost others alike) long are nothing count

    -- where none is lost, the producers stay
    keeps_producers : is_done next ≡ is_done mark → (waiting' : ℕ) → waiting' ≡ waiting_count (stations_at (row_at new_rows) indices) → AreTables capacity indices new_rows producers waiting'
    keeps_producers done waiting' count =
        keeps_written producers none (λ other differ. refl) (done ∙ or_false (is_done mark)) refl (λ register within. sym (dropped_none (get_or producers register None))) keeps.no_source waiting' count

    alike_by : (other : ℕ) → is_waiting next ≡ is_waiting mark → is_waiting (row_at new_rows other).mark ≡ is_waiting (row_at rows other).mark
    alike_by other alike =
        let here = held_with index mark before in
        ap is_waiting (Marks-written rows index next row here.0 is other).mark ∙ elim (cases_eq other index) [
          | inl same ↦
              ap (λ b. is_waiting (if b then next else (row_at rows other).mark)) (eq-eqb other index same)
              ∙ alike ∙ ap is_waiting (sym here.1) ∙ ap (λ s. is_waiting (row_at rows s).mark) (sym same)
          | inr differ ↦ ap (λ b. is_waiting (if b then next else (row_at rows other).mark)) (ne_eqb other index differ)
        ]

    -- as many wait
    waits_alike : is_waiting next ≡ is_waiting mark → waiting ≡ waiting_count (stations_at (row_at new_rows) indices)
    waits_alike alike =
        keeps.count ∙ sym (waiting_count-same (row_at rows) (row_at new_rows) indices
        (Each-map (λ s. s < capacity) (λ other. is_waiting (row_at new_rows other).mark ≡ is_waiting (row_at rows other).mark) (λ other h. alike_by other alike) indices keeps.within))

    pub AreTables-marked : is_done next ≡ is_done mark → is_waiting next ≡ is_waiting mark → AreTables capacity indices new_rows producers waiting
    AreTables-marked done alike = keeps_producers done waiting (waits_alike alike)

    -- one that is done now is no producer
    pub AreTables-told : (table : List (Option ℕ)) →
        table ≡ with_producer (row_at rows index).registers.destination (without index (producer_at producers (row_at rows index).registers.destination)) producers →
        get_or table 256 None ≡ get_or producers 256 None → is_done next ≡ (is_done mark || one index index) → is_waiting next ≡ is_waiting mark → AreTables capacity indices new_rows table waiting
    AreTables-told table set apart done alike =
        let mine = (row_at rows index).registers.destination in
        let dropped_of = get_or-dropped (row_at rows) (reverse indices) producers keeps.every_register keeps.each_producer index in
        keeps_written table (one index) (λ other differ. ne_eqb other index differ) done
        (ap length set ∙ length-with_producer mine (without index (producer_at producers mine)) producers)
        (λ register within. ap (λ xs. get_or xs register None) set ∙ dropped_of register within ∙ sym (dropped_one index (get_or producers register None)))
        (apart ∙ keeps.no_source) waiting (waits_alike alike)

    -- one that writes no register was none
    pub AreTables-silent : is_some (row_at rows index).registers.destination ≡ false → is_done next ≡ (is_done mark || one index index) → is_waiting next ≡ is_waiting mark →
        AreTables capacity indices new_rows producers waiting
    AreTables-silent silent done alike =
        keeps_written producers (one index) (λ other differ. ne_eqb other index differ) done refl
        (λ register within.
        let held = get_or producers register None in
        sym (dropped_one index held ∙ without-same index held
        (ap (is_index index) (keeps.each_producer register within) ∙ never_unfinished index (row_at rows) (reverse indices) register silent)))
        keeps.no_source waiting (waits_alike alike)

    -- one fewer waits
    one_fewer : is_waiting next ≡ false → is_waiting mark ≡ true → waiting_count (stations_at (row_at new_rows) indices) + 1 ≡ waiting
    one_fewer not_now then_so =
        let here = held_with index mark before in
        let found = with_mark_of (station_of index (stations_at (row_at rows) indices)) mark (ap (λ (v : Window). mark_of index v.stations) is_seen ∙ before) in
        waiting_count-one_less (row_at rows) (row_at new_rows) index next indices keeps.distinct each_marked not_now (ap is_waiting here.1 ∙ then_so) found.0 found.1
        ∙ sym keeps.count

    pub some_wait : is_waiting next ≡ false → is_waiting mark ≡ true → 1 ≤ waiting
    some_wait not_now then_so = omega (arith, one_fewer not_now then_so)

    pub AreTables-fewer : is_done next ≡ is_done mark → is_waiting next ≡ false → is_waiting mark ≡ true → AreTables capacity indices new_rows producers (waiting - 1)
    AreTables-fewer done not_now then_so = keeps_producers done (waiting - 1) (omega (arith, one_fewer not_now then_so))
