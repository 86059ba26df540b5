-- Each event of a run is of one of the rows, and counts something; in each cycle one cycle is counted.
use Rattle.std.proofs.Common.{◌≡◌, ℕ, ◌+◌, ◌<◌, ◌==◌, nat_lt, Bool, true, false, if◌then◌else◌, List, [], ◌∷◌, ◌++◌, length, refl, sym, arith}
use Rattle.std.specs.Prelude.{◌||◌, flat_map, option_to_list, sum_by}
use Rattle.std.proofs.lemmas.Bool.{lt-ltb, ltb-true}
use Rattle.std.proofs.lemmas.List.Sums.{sum_by-append, sum_by-cons}
use Rattle.elf_image.specs.declared.image.Image.{Image}
use Rattle.cache_timing.specs.declared.params.AllCaches.{AllCaches}
use Rattle.cache_timing.specs.declared.counts.CacheCounts.{CacheCounts}
use Rattle.cache_timing.specs.Caches.{CachesState, cold}
use Rattle.text_rows.specs.Rows.{AreRowsOf}
use Rattle.insight_model.specs.declared.pipeline.Pipeline.{Pipeline}
use Rattle.insight_model.specs.Sight.{Shown}
use Rattle.insight_model.specs.Accesses.{CacheAccess, retired_in, rise, used}
use Rattle.insight_model.specs.Cycles.{Cycle}
use Rattle.insight_model.specs.Profile.{Column, Event, cache_events, column_place, cycle_events, events_at, fetched, is_taken, mispredicted, once, own_events, retired, retired_events, row_of, spent, squashed, taken, trapped, trapped_record, wrong_record}
use Rattle.insight_laws.proofs.Listed.{AllStandIn, StandsIn, has_row}
use Rattle.insight_laws.proofs.TextRows.{addresses, row_stands}
use Rattle.cycle_watch.specs.Profiled.{access_events, run_accesses, run_events}
use Rattle.cycle_watch.proofs.ColumnSums.{cycle_is, cycles_in, other_is}
use Rattle.cycle_watch.proofs.RowFilling.{seven, some}
use Rattle.cycle_watch.proofs.Weights.{weight}

-- an event is of one of these rows, and counts something
pub record IsSound (rows : List ℕ) (event : Event) : Type 0 where
  pub stands : StandsIn event.row rows
  pub some : 0 < event.amount

abbrev pub AllSound : List ℕ → List Event → Type 0
AllSound rows [] = Unit {0}
AllSound rows (event ∷ rest) = IsSound rows event × AllSound rows rest

sound_both : (rows : List ℕ) (xs ys : List Event) → AllSound rows xs → AllSound rows ys → AllSound rows (xs ++ ys)
sound_both rows [] ys first second = second
sound_both rows (x ∷ xs) ys first second = (first.0, sound_both rows xs ys first.1 second)

pub all_stand : (rows : List ℕ) (events : List Event) → AllSound rows events → AllStandIn rows events
all_stand rows [] sound = tt
all_stand rows (event ∷ rest) sound = (sound.0.stands, all_stand rows rest sound.1)

module _ (image : Image) (text : List ℕ) (are : AreRowsOf image text) where
  abbrev rows : List ℕ
  rows = addresses text

  one_sound : (column : Column) (addr : ℕ) → IsSound rows (once image column addr)
  one_sound column addr = record { stands = row_stands image text are addr; some = omega arith }

  at_sound : (column : Column) (shown : List Shown) → AllSound rows (events_at image column shown)
  at_sound column [] = tt
  at_sound column (rec ∷ rest) = (one_sound column rec.addr, at_sound column rest)

  one_retired : (rec : Shown) → AllSound rows (retired_events image rec)
  one_retired rec = by (is_taken rec)
    where
      by : (b : Bool) → AllSound rows (once image retired rec.addr ∷ (if b then once image taken rec.addr ∷ [] else []))
      by true = (one_sound retired rec.addr, (one_sound taken rec.addr, tt))
      by false = (one_sound retired rec.addr, tt)

  retired_sound : (shown : List Shown) → AllSound rows (flat_map (retired_events image) shown)
  retired_sound [] = tt
  retired_sound (rec ∷ rest) = sound_both rows (retired_events image rec) (flat_map (retired_events image) rest) (one_retired rec) (retired_sound rest)

  cycle_sound : (cycle : Cycle) → AllSound rows (cycle_events image cycle)
  unfolding cycle_events
  cycle_sound cycle =
      let f = cycle.facts in
      let A = flat_map (retired_events image) (retired_in f) in
      let B = events_at image trapped (option_to_list (trapped_record f)) in
      let C = events_at image squashed f.squashed in
      let D = events_at image mispredicted (option_to_list (wrong_record f)) in
      let E = events_at image fetched f.appended in (
        one_sound (spent cycle.head.cause) cycle.head.addr,
        sound_both rows (A ++ B ++ C ++ D) E
            (sound_both rows (A ++ B ++ C) D
            (sound_both rows (A ++ B) C (sound_both rows A B (retired_sound (retired_in f)) (at_sound trapped (option_to_list (trapped_record f)))) (at_sound squashed f.squashed))
            (at_sound mispredicted (option_to_list (wrong_record f))))
            (at_sound fetched f.appended),
      )

  cycles_sound : (run : List Cycle) → AllSound rows (flat_map (cycle_events image) run)
  cycles_sound [] = tt
  cycles_sound (cycle ∷ run) = sound_both rows (cycle_events image cycle) (flat_map (cycle_events image) run) (cycle_sound cycle) (cycles_sound run)

  some_sound : (events : List Event) → AllStandIn rows events → AllSound rows (some events)
  some_sound [] stand = tt
  some_sound (event ∷ rest) stand = by (some_sound rest stand.1) (nat_lt 0 event.amount) refl
    where
      by : AllSound rows (some rest) → (b : Bool) → nat_lt 0 event.amount ≡ b → AllSound rows (if b then event ∷ some rest else some rest)
      by others true is = (record { stands = stand.0; some = ltb-true 0 event.amount is }, others)
      by others false is = others

  rise_sound : (by : ℕ) (counts : CacheCounts) → AllSound rows (cache_events (row_of image by) counts)
  rise_sound by counts =
      let own = row_stands image text are by in
      some_sound (seven (row_of image by) counts) (own, (own, (own, (own, (own, (own, (own, tt)))))))

  accesses_sound : (p : AllCaches) (state : CachesState) (made : List CacheAccess) → AllSound rows (access_events image p state made)
  accesses_sound p state [] = tt
  accesses_sound p state (one ∷ rest) =
      let next = used p state one.what in
      let here = rise state.counts next.counts in
      sound_both rows (cache_events (row_of image one.by) here) (access_events image p next rest) (rise_sound one.by here) (accesses_sound p next rest)

  pub run_sound : (p : AllCaches) (kind : Pipeline) (run : List Cycle) → AllSound rows (run_events image p kind run)
  run_sound p kind run =
      sound_both rows (flat_map (cycle_events image) run) (access_events image p cold (run_accesses kind run)) (cycles_sound run) (accesses_sound p cold (run_accesses kind run))

-- an event has the row where something was counted in it
pub row_counted : (rows : List ℕ) (events : List Event) (row : ℕ) → AllSound rows events → has_row row events ≡ nat_lt 0 (weight (own_events row events))
row_counted rows [] row sound = refl
row_counted rows (event ∷ rest) row sound = by (row_counted rows rest row sound.1) (event.row == row)
  where
    by : has_row row rest ≡ nat_lt 0 (weight (own_events row rest)) → (b : Bool) → (b || has_row row rest) ≡ nat_lt 0 (weight (if b then event ∷ own_events row rest else own_events row rest))
    by others true =
        sym (lt-ltb 0 (weight (event ∷ own_events row rest)) (omega (arith, sound.0.some, sum_by-cons (λ (e : Event). e.amount) event (own_events row rest))))
    by others false = others

-- Cycles are counted once in each cycle, and nowhere else.
cycles_both : (xs ys : List Event) → sum_by cycles_in (xs ++ ys) ≡ sum_by cycles_in xs + sum_by cycles_in ys
cycles_both xs ys = sum_by-append cycles_in xs ys

abbrev AreOthers : List Event → Type 0
AreOthers [] = Unit {0}
AreOthers (event ∷ rest) = (column_place event.column < 13) × AreOthers rest

module _ (image : Image) where
  no_cycles_at : (column : Column) (shown : List Shown) → column_place column < 13 → sum_by cycles_in (events_at image column shown) ≡ 0
  no_cycles_at column [] below = refl
  no_cycles_at column (rec ∷ rest) below = omega (arith, other_is (once image column rec.addr) below, sum_by-cons cycles_in (once image column rec.addr) (events_at image column rest), no_cycles_at column rest below)

  no_cycles_one : (rec : Shown) → sum_by cycles_in (retired_events image rec) ≡ 0
  no_cycles_one rec = by (is_taken rec)
    where
      by : (b : Bool) → sum_by cycles_in (once image retired rec.addr ∷ (if b then once image taken rec.addr ∷ [] else [])) ≡ 0
      by true =
          omega (
            arith,
            sum_by-cons cycles_in (once image retired rec.addr) (once image taken rec.addr ∷ []),
            sum_by-cons cycles_in (once image taken rec.addr) [],
            other_is (once image retired rec.addr) (omega arith),
            other_is (once image taken rec.addr) (omega arith),
          )
      by false = omega (arith, sum_by-cons cycles_in (once image retired rec.addr) [], other_is (once image retired rec.addr) (omega arith))

  no_cycles_retired : (shown : List Shown) → sum_by cycles_in (flat_map (retired_events image) shown) ≡ 0
  no_cycles_retired [] = refl
  no_cycles_retired (rec ∷ rest) =
      omega (arith, cycles_both (retired_events image rec) (flat_map (retired_events image) rest), no_cycles_one rec, no_cycles_retired rest)

  cycle_once : (cycle : Cycle) → sum_by cycles_in (cycle_events image cycle) ≡ 1
  unfolding cycle_events
  cycle_once cycle =
      let f = cycle.facts in
      let A = flat_map (retired_events image) (retired_in f) in
      let B = events_at image trapped (option_to_list (trapped_record f)) in
      let C = events_at image squashed f.squashed in
      let D = events_at image mispredicted (option_to_list (wrong_record f)) in
      let E = events_at image fetched f.appended in
      let head : Event = once image (spent cycle.head.cause) cycle.head.addr in
      omega (
        arith,
        sum_by-cons cycles_in head (A ++ B ++ C ++ D ++ E),
        cycle_is head cycle.head.cause refl,
        cycles_both (A ++ B ++ C ++ D) E,
        cycles_both (A ++ B ++ C) D,
        cycles_both (A ++ B) C,
        cycles_both A B,
        no_cycles_retired (retired_in f),
        no_cycles_at trapped (option_to_list (trapped_record f)) (omega arith),
        no_cycles_at squashed f.squashed (omega arith),
        no_cycles_at mispredicted (option_to_list (wrong_record f)) (omega arith),
        no_cycles_at fetched f.appended (omega arith),
      )

  cycles_once : (run : List Cycle) → sum_by cycles_in (flat_map (cycle_events image) run) ≡ length run
  cycles_once [] = refl
  cycles_once (cycle ∷ run) = omega (arith, cycles_both (cycle_events image cycle) (flat_map (cycle_events image) run), cycle_once cycle, cycles_once run)

  no_cycles_in : (events : List Event) → AreOthers events → sum_by cycles_in events ≡ 0
  no_cycles_in [] others = refl
  no_cycles_in (event ∷ rest) others = omega (arith, sum_by-cons cycles_in event rest, other_is event others.0, no_cycles_in rest others.1)

  some_cycles : (events : List Event) → sum_by cycles_in events ≡ 0 → sum_by cycles_in (some events) ≡ 0
  some_cycles [] none = refl
  some_cycles (event ∷ rest) none =
      let here = sum_by-cons cycles_in event rest in
      by (omega (arith, none, here)) (some_cycles rest (omega (arith, none, here))) (nat_lt 0 event.amount)
    where
      by : cycles_in event ≡ 0 → sum_by cycles_in (some rest) ≡ 0 → (b : Bool) → sum_by cycles_in (if b then event ∷ some rest else some rest) ≡ 0
      by nothing others true = omega (arith, sum_by-cons cycles_in event (some rest), nothing, others)
      by nothing others false = others

  no_cycles_accessed : (p : AllCaches) (state : CachesState) (made : List CacheAccess) → sum_by cycles_in (access_events image p state made) ≡ 0
  no_cycles_accessed p state [] = refl
  no_cycles_accessed p state (one ∷ rest) =
      let next = used p state one.what in
      let here = rise state.counts next.counts in
      omega (
        arith,
        cycles_both (cache_events (row_of image one.by) here) (access_events image p next rest),
        some_cycles (seven (row_of image one.by) here) (no_cycles_in (seven (row_of image one.by) here) (omega arith, (omega arith, (omega arith, (omega arith, (omega arith, (omega arith, (omega arith, tt)))))))),
        no_cycles_accessed p next rest,
      )

  pub run_cycles : (p : AllCaches) (kind : Pipeline) (run : List Cycle) → sum_by cycles_in (run_events image p kind run) ≡ length run
  run_cycles p kind run =
      omega (
        arith,
        cycles_both (flat_map (cycle_events image) run) (access_events image p cold (run_accesses kind run)),
        cycles_once run,
        no_cycles_accessed p cold (run_accesses kind run),
      )
