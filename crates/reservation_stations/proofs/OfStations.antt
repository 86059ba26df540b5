-- The sets of the stations, behind each call.
use Rattle.std.proofs.Common.{◌≡◌, ◌≢◌, ℕ, ◌+◌, ◌%◌, ◌<◌, ◌||◌, Bool, true, false, Option, Some, None, List, [], ◌∷◌, ◌++◌, length, get_or, take, reverse, refl, ap, sym, ◌∙◌, subst, arith, if◌then◌else◌, ◌&&◌}
use Rattle.std.specs.Prelude.{slice_get, slice_set, option_map, nat_lt}
use Rattle.std.proofs.lemmas.Option.{slice_get_past, slice_get-map}
use Rattle.std.proofs.lemmas.List.{length-set, length-map}
use Rattle.reservation_stations.specs.declared.station.Mark.{Mark}
use Rattle.reservation_stations.specs.declared.station.Station.{Station}
use Rattle.reservation_stations.specs.declared.row.Row.{Row}
use Rattle.reservation_stations.specs.declared.sets.Sets.{Sets}
use Rattle.reservation_stations.specs.declared.turn_set.TurnSet.{TurnSet}
use Rattle.reservation_stations.specs.TurnSet.{holds}
use Rattle.reservation_stations.specs.Readiness.{Window, is_waiting, is_issued, is_done, mark_of, executes, executes_at}
use Rattle.reservation_stations.specs.AreTables.{AreTables, row_at, stations_at, station_in}
use Rattle.reservation_stations.specs.Places.{place_of, AreTurned}
use Rattle.reservation_stations.specs.AreSets.{AreSets, AreSetsOf, Missing, nothing, missing, missing_at, waits, waits_at, fed, put}
use Rattle.reservation_stations.proofs.Marking.{Marks}
use Rattle.reservation_stations.proofs.Kept.{seen, held_with, each_changed, is, Marks-written}
use Rattle.reservation_stations.proofs.Leaving.{waits_not, executes_not}
use Rattle.reservation_stations.proofs.Places.{marked_in}
use Rattle.reservation_stations.proofs.Missing.{put_same, fed-same}
use Rattle.reservation_stations.proofs.Standing.{AreSets-as, entered_at, nothing_yet, kept_at, retired_at, own_turn}
use Rattle.reservation_stations.proofs.Feeding.{losing, missing_marked, marked_at, missing_retired, none_awaits}

-- of none
abbrev no_stations : List Station
no_stations = []

nobody : (p : ℕ) → slice_get no_stations p ≡ None
nobody p = slice_get_past no_stations p (omega arith)

pub AreSets-none : {capacity : ℕ} {sets : Sets} → AreSets capacity (λ t. false) (λ t. false) (λ t. nothing) sets → AreSetsOf capacity 0 [] sets
AreSets-none are =
    AreSets-as are (λ t within. sym (ap waits (nobody (place_of 0 t)))) (λ t within. sym (ap executes (nobody (place_of 0 t))))
    (λ t within. sym (ap (missing (reverse (take (place_of 0 t) []))) (nobody (place_of 0 t))))

-- with another mark on one
module _ {capacity : ℕ} {indices : List ℕ} {rows : List Row} {producers : List (Option ℕ)} {waiting : ℕ} (keeps : AreTables capacity indices rows producers waiting) {w : Window} (is_seen : seen capacity indices rows ≡ w)
    (index : ℕ) (mark next : Mark) (before : mark_of index w.stations ≡ Some mark) (row : Row) (read : row ≡ get_or rows index row)
    (retired : ℕ) (small : retired < 256) (turned : AreTurned retired indices rows) (turn : ℕ) (inside : turn < 256) (own : (row_at rows index).turn ≡ turn) where
  abbrev marked_rows : List Row
  marked_rows = slice_set rows index (record row { mark = next })

  found : (place : ℕ) × (slice_get indices place ≡ Some index)
  found = marked_in (row_at rows) indices index mark (ap (λ (v : Window). mark_of index v.stations) is_seen ∙ before)

  its : place_of retired turn ≡ found.0
  its = ap (place_of retired) (sym own) ∙ turned found.0 index found.1

  each : (other : ℕ) → Marks (row_at rows) (row_at marked_rows) index next other
  each other = Marks-written rows index next row (held_with keeps is_seen index mark before).0 (is keeps is_seen index mark next before row read) other

  -- what is true of its mark is true of its turn
  pub of_turn : (of : Option Station → Bool) (by : Mark → Bool) → ((station : Station) → of (Some station) ≡ by station.mark) →
      of (slice_get (stations_at (row_at rows) indices) (place_of retired turn)) ≡ by mark
  of_turn of by is_by =
      ap of (slice_get-map (λ s. station_in s (row_at rows s)) indices (place_of retired turn))
      ∙ ap (λ p. of (option_map (λ s. station_in s (row_at rows s)) (slice_get indices p))) its
      ∙ ap (λ o. of (option_map (λ s. station_in s (row_at rows s)) o)) found.1
      ∙ is_by (station_in index (row_at rows index)) ∙ ap by (held_with keeps is_seen index mark before).1

  pub AreSets-marked : {sets : Sets} {w' e' : ℕ → Bool} {m' : ℕ → Missing} (lost : ℕ → Bool) → ((other : ℕ) → other ≢ index → lost other ≡ false) → is_done next ≡ (is_done mark || lost index) →
      AreSets capacity w' e' m' sets →
      ((t : ℕ) → t < 256 → w' t ≡ put turn (is_waiting next) (λ u. waits_at (stations_at (row_at rows) indices) (place_of retired u)) t) →
      ((t : ℕ) → t < 256 → e' t ≡ put turn (is_issued next) (λ u. executes_at (stations_at (row_at rows) indices) (place_of retired u)) t) →
      ((t : ℕ) → t < 256 → m' t ≡ losing lost (missing_at (stations_at (row_at rows) indices) (place_of retired t))) →
      AreSetsOf (length marked_rows) retired (stations_at (row_at marked_rows) indices) sets
  AreSets-marked {sets = sets} lost others alike are w_is e_is m_is =
      subst (λ n. AreSetsOf n retired (stations_at (row_at marked_rows) indices) sets) (sym (length-set rows index (record row { mark = next }) ∙ keeps.every_index))
      (AreSets-as are
      (λ t within. w_is t within ∙ marked_at (row_at rows) (row_at marked_rows) index next each indices waits is_waiting (λ station. refl) retired small turn inside found.0 found.1 its turned own t within)
      (λ t within. e_is t within ∙ marked_at (row_at rows) (row_at marked_rows) index next each indices executes is_issued (λ station. refl) retired small turn inside found.0 found.1 its turned own t within)
      (λ t within. m_is t within ∙ sym (missing_marked (row_at rows) (row_at marked_rows) index next each indices lost (each_changed keeps is_seen index mark next before row read lost others alike) (place_of retired t))))

-- one more
pub AreSets-entered : {capacity : ℕ} {sets : Sets} (stations : List Station) (x : Station) (retired turn : ℕ) → is_waiting x.mark ≡ true → is_issued x.mark ≡ false →
    retired < 256 → length stations < 256 → turn < 256 → place_of retired turn ≡ length stations →
    AreSets capacity (put turn true (λ u. waits_at stations (place_of retired u))) (λ u. executes_at stations (place_of retired u))
    (put turn (missing (reverse stations) (Some x)) (λ u. missing_at stations (place_of retired u))) sets →
    AreSetsOf capacity retired (stations ++ x ∷ []) sets
AreSets-entered stations x retired turn waits_now not_issued small few inside there are =
    AreSets-as are
    (λ t within. ap (λ b. put turn b (λ u. waits_at stations (place_of retired u)) t) (sym waits_now)
    ∙ entered_at (λ older o. waits o) false (λ older. refl) retired small stations x few turn inside there t within)
    (λ t within. put_same turn false (λ u. executes_at stations (place_of retired u)) t
    (nothing_yet (λ older o. executes o) false (λ older. refl) retired small stations x few turn inside there)
    ∙ ap (λ b. put turn b (λ u. executes_at stations (place_of retired u)) t) (sym not_issued)
    ∙ entered_at (λ older o. executes o) false (λ older. refl) retired small stations x few turn inside there t within)
    (λ t within. entered_at missing nothing (λ older. refl) retired small stations x few turn inside there t within)

-- those from a place on leave
kept_when : (b c : Bool) → (if b then c else false) ≡ (c && b)
kept_when true true = refl
kept_when true false = refl
kept_when false true = refl
kept_when false false = refl

pub AreSets-kept : {capacity : ℕ} {sets : Sets} (stations : List Station) (retired kept : ℕ) (live : TurnSet) →
    ((turn : ℕ) → turn < 256 → holds live turn ≡ nat_lt (place_of retired turn) kept) →
    AreSets capacity (λ u. waits_at stations (place_of retired u) && holds live u) (λ u. executes_at stations (place_of retired u) && holds live u)
    (λ u. if holds live u then missing_at stations (place_of retired u) else nothing) sets →
    AreSetsOf capacity retired (take kept stations) sets
AreSets-kept stations retired kept live those are =
    AreSets-as are
    (λ t within. ap (λ b. waits_at stations (place_of retired t) && b) (those t within) ∙ sym (kept_when (nat_lt (place_of retired t) kept) (waits_at stations (place_of retired t)))
    ∙ sym (kept_at (λ older o. waits o) false (λ older. refl) stations kept (place_of retired t)))
    (λ t within. ap (λ b. executes_at stations (place_of retired t) && b) (those t within) ∙ sym (kept_when (nat_lt (place_of retired t) kept) (executes_at stations (place_of retired t)))
    ∙ sym (kept_at (λ older o. executes o) false (λ older. refl) stations kept (place_of retired t)))
    (λ t within. ap (λ b. if b then missing_at stations (place_of retired t) else nothing) (those t within)
    ∙ sym (kept_at missing nothing (λ older. refl) stations kept (place_of retired t)))

-- the oldest leaves
module _ {capacity : ℕ} (index : ℕ) (rest : List ℕ) (rows : List Row) {producers : List (Option ℕ)} {waiting : ℕ} (keeps : AreTables capacity (index ∷ rest) rows producers waiting) (retired : ℕ) (small : retired < 256) (few : length rest < 256) where
  pub AreSets-retired : {sets : Sets} →
      AreSets capacity (put retired false (λ u. waits_at (stations_at (row_at rows) (index ∷ rest)) (place_of retired u)))
      (put retired false (λ u. executes_at (stations_at (row_at rows) (index ∷ rest)) (place_of retired u)))
      (λ u. fed index (missing_at (stations_at (row_at rows) (index ∷ rest)) (place_of retired u))) sets →
      AreSetsOf capacity ((retired + 1) % 256) (stations_at (row_at rows) rest) sets
  AreSets-retired are =
      let short : length (stations_at (row_at rows) rest) < 256 = omega (arith, few, length-map rest (λ s. station_in s (row_at rows s))) in
      AreSets-as are
      (λ t within. retired_at waits false refl retired small (station_in index (row_at rows index)) (stations_at (row_at rows) rest) short t within)
      (λ t within. retired_at executes false refl retired small (station_in index (row_at rows index)) (stations_at (row_at rows) rest) short t within)
      (λ t within. missing_retired index rest rows keeps retired small few t within)

  -- where it is done, the sets are already those of the rest
  pub AreSets-untold : is_done (row_at rows index).mark ≡ true → {sets : Sets} →
      AreSetsOf capacity retired (stations_at (row_at rows) (index ∷ rest)) sets → AreSetsOf capacity ((retired + 1) % 256) (stations_at (row_at rows) rest) sets
  AreSets-untold done are =
      let stations = stations_at (row_at rows) (index ∷ rest) in
      AreSets-retired
      (AreSets-as are
      (λ t within. put_same retired false (λ u. waits_at stations (place_of retired u)) t (ap (waits_at stations) (own_turn retired small) ∙ waits_not (row_at rows index).mark done))
      (λ t within. put_same retired false (λ u. executes_at stations (place_of retired u)) t (ap (executes_at stations) (own_turn retired small) ∙ executes_not (row_at rows index).mark done))
      (λ t within. sym (fed-same index (missing_at stations (place_of retired t)) (none_awaits index rows (index ∷ rest) done (place_of retired t)))))
