-- What the stations miss, and which wait or execute, as one gets another mark or the oldest leaves.
use Rattle.std.proofs.Common.{◌≡◌, ◌≢◌, ℕ, suc, ◌+◌, ◌%◌, ◌<◌, ◌≤◌, ◌||◌, Bool, true, false, if◌then◌else◌, Option, Some, None, List, [], ◌∷◌, ◌++◌, length, take, reverse, refl, ap, sym, ◌∙◌, subst, inl, inr, arith, eq-eqb, is_some}
use Rattle.std.specs.Prelude.{slice_get, option_map}
use Rattle.std.proofs.lemmas.Bool.{cases_eq, ne_eqb}
use Rattle.std.proofs.lemmas.Option.{slice_get-map}
use Rattle.std.proofs.lemmas.List.{append-nil, length-map}
use Rattle.reservation_stations.specs.declared.station.Mark.{Mark}
use Rattle.reservation_stations.specs.declared.station.Registers.{Registers}
use Rattle.reservation_stations.specs.declared.station.Station.{Station}
use Rattle.reservation_stations.specs.declared.row.Row.{Row}
use Rattle.reservation_stations.specs.Readiness.{is_done}
use Rattle.reservation_stations.specs.AreTables.{AreTables, Each, row_at, stations_at, station_in, awaited}
use Rattle.reservation_stations.specs.Places.{place_of, place_in}
use Rattle.reservation_stations.specs.AreSets.{Missing, nothing, missing, missing_at, awaits, fed, put}
use Rattle.reservation_stations.proofs.Indices.{reverse-cons, Each-take}
use Rattle.reservation_stations.proofs.Carried.{dropped, Changes, Carries, Carries-behind, awaited_carried}
use Rattle.reservation_stations.proofs.Marking.{Marks}
use Rattle.reservation_stations.proofs.Producers.{not_awaited, never_awaited}
use Rattle.reservation_stations.proofs.Kept.{none, dropped_none, one, dropped_one, Carries-none}
use Rattle.reservation_stations.proofs.Reading.{older_than-at}
use Rattle.reservation_stations.proofs.Leaving.{each_behind, Carries-oldest}
use Rattle.reservation_stations.proofs.Missing.{put_here, put_elsewhere}
use Rattle.reservation_stations.proofs.Standing.{same_turn, first_turn, last_turn, own_turn, past}

abbrev station_if : (ℕ → Row) → Option ℕ → Option Station
station_if at o = option_map (λ index. station_in index (at index)) o

-- a place of the list
at_there : (at : ℕ → Row) (indices : List ℕ) (p : ℕ) → missing_at (stations_at at indices) p ≡ missing (stations_at at (reverse (take p indices))) (station_if at (slice_get indices p))
at_there at indices p = λ i. missing (older_than-at at indices p i) (slice_get-map (λ index. station_in index (at index)) indices p i)

-- what is missing, without what is lost
abbrev pub losing : (ℕ → Bool) → Missing → Missing
losing lost missed = record { first = dropped lost missed.first; second = dropped lost missed.second }

pub losing_none : (missed : Missing) → losing none missed ≡ missed
losing_none missed = λ i. record { first = dropped_none missed.first i; second = dropped_none missed.second i }

pub losing_one : (index : ℕ) (missed : Missing) → losing (one index) missed ≡ fed index missed
losing_one index missed = λ i. record { first = dropped_one index missed.first i; second = dropped_one index missed.second i }

module _ (at at' : ℕ → Row) (lost : ℕ → Bool) (same : (s : ℕ) → (at' s).registers ≡ (at s).registers) where
  missing_carried : (older older' : List ℕ) (o : Option ℕ) → Carries at at' lost older older' →
      missing (stations_at at' older') (station_if at' o) ≡ losing lost (missing (stations_at at older) (station_if at o))
  missing_carried older older' None carried = refl
  missing_carried older older' (Some s) carried =
      λ i. record {
        first = (ap (λ (r : Registers). awaited (stations_at at' older') r.sources.0) (same s) ∙ awaited_carried at at' lost older older' (at s).registers.sources.0 carried) i;
        second = (ap (λ (r : Registers). awaited (stations_at at' older') r.sources.1) (same s) ∙ awaited_carried at at' lost older older' (at s).registers.sources.1 carried) i;
      }

-- one gets another mark
module _ (at at' : ℕ → Row) (index : ℕ) (next : Mark) (marks : (other : ℕ) → Marks at at' index next other) (indices : List ℕ) where
  pub missing_marked : (lost : ℕ → Bool) → Each (Changes at at' lost) indices → (p : ℕ) →
      missing_at (stations_at at' indices) p ≡ losing lost (missing_at (stations_at at indices) p)
  missing_marked lost each p =
      let behind : Carries at at' lost (reverse (take p indices)) (reverse (take p indices)) =
      subst (λ xs. Carries at at' lost xs xs) (append-nil (reverse (take p indices)))
      (Carries-behind at at' lost (take p indices) [] [] (Each-take (Changes at at' lost) indices p each) (Carries-none at at' lost)) in
      at_there at' indices p
      ∙ missing_carried at at' lost (λ s. (marks s).registers) (reverse (take p indices)) (reverse (take p indices)) (slice_get indices p) behind
      ∙ ap (losing lost) (sym (at_there at indices p))

  module _ (of : Option Station → Bool) (by : Mark → Bool) (is_by : (station : Station) → of (Some station) ≡ by station.mark) where
    same_of : (o : Option ℕ) → ((s : ℕ) → o ≡ Some s → s ≢ index) → of (station_if at o) ≡ of (station_if at' o)
    same_of None apart = refl
    same_of (Some s) apart =
        is_by (station_in s (at s)) ∙ ap (λ b. by (if b then next else (at s).mark)) (sym (ne_eqb s index (apart s refl)))
        ∙ ap by (sym (marks s).mark) ∙ sym (is_by (station_in s (at' s)))

    here_of : of (Some (station_in index (at' index))) ≡ by next
    here_of = is_by (station_in index (at' index)) ∙ ap by ((marks index).mark ∙ ap (λ b. if b then next else (at index).mark) (eq-eqb index index refl))

    module _ (retired : ℕ) (small : retired < 256) (turn : ℕ) (within : turn < 256) (place : ℕ) (there : slice_get indices place ≡ Some index) (its : place_of retired turn ≡ place)
        (turned : (p s : ℕ) → slice_get indices p ≡ Some s → place_in retired (at s) ≡ p) (own : (at index).turn ≡ turn) where
      elsewhere : (t : ℕ) → t < 256 → t ≢ turn → (s : ℕ) → slice_get indices (place_of retired t) ≡ Some s → s ≢ index
      elsewhere t inside differ s is same =
          differ (same_turn retired t turn small inside within
          (sym (turned (place_of retired t) s is) ∙ ap (λ k. place_in retired (at k)) same ∙ ap (place_of retired) own))

      pub marked_at : (t : ℕ) → t < 256 → put turn (by next) (λ u. of (slice_get (stations_at at indices) (place_of retired u))) t ≡
          of (slice_get (stations_at at' indices) (place_of retired t))
      marked_at t inside = elim (cases_eq t turn) [
        | inl same ↦
            put_here turn (by next) (λ u. of (slice_get (stations_at at indices) (place_of retired u))) t same
            ∙ sym (ap of (slice_get-map (λ s. station_in s (at' s)) indices (place_of retired t))
            ∙ ap (λ u. of (station_if at' (slice_get indices u))) (ap (place_of retired) same ∙ its) ∙ ap (λ o. of (station_if at' o)) there ∙ here_of)
        | inr differ ↦
            put_elsewhere turn (by next) (λ u. of (slice_get (stations_at at indices) (place_of retired u))) t differ
            ∙ ap of (slice_get-map (λ s. station_in s (at s)) indices (place_of retired t))
            ∙ same_of (slice_get indices (place_of retired t)) (elsewhere t inside differ)
            ∙ sym (ap of (slice_get-map (λ s. station_in s (at' s)) indices (place_of retired t)))
      ]

-- the oldest leaves
first_misses : (source : Option ℕ) → awaited [] source ≡ None
first_misses None = refl
first_misses (Some register) = refl

-- none awaits one that is done
not_missed : (index : ℕ) (rows : List Row) (older : List ℕ) (o : Option ℕ) → is_done (row_at rows index).mark ≡ true →
    awaits index (missing (stations_at (row_at rows) older) (station_if (row_at rows) o)) ≡ false
not_missed index rows older None done = refl
not_missed index rows older (Some s) done =
    λ i. not_awaited index (row_at rows) older (row_at rows s).registers.sources.0 done i || not_awaited index (row_at rows) older (row_at rows s).registers.sources.1 done i

pub none_awaits : (index : ℕ) (rows : List Row) (indices : List ℕ) → is_done (row_at rows index).mark ≡ true → (p : ℕ) →
    awaits index (missing_at (stations_at (row_at rows) indices) p) ≡ false
none_awaits index rows indices done p =
    ap (awaits index) (at_there (row_at rows) indices p) ∙ not_missed index rows (reverse (take p indices)) (slice_get indices p) done

-- nor one that writes no register
never_missed : (index : ℕ) (rows : List Row) (older : List ℕ) (o : Option ℕ) → is_some (row_at rows index).registers.destination ≡ false →
    awaits index (missing (stations_at (row_at rows) older) (station_if (row_at rows) o)) ≡ false
never_missed index rows older None mine = refl
never_missed index rows older (Some s) mine =
    λ i. never_awaited index (row_at rows) older (row_at rows s).registers.sources.0 mine i || never_awaited index (row_at rows) older (row_at rows s).registers.sources.1 mine i

pub never_awaits : (index : ℕ) (rows : List Row) (indices : List ℕ) → is_some (row_at rows index).registers.destination ≡ false → (p : ℕ) →
    awaits index (missing_at (stations_at (row_at rows) indices) p) ≡ false
never_awaits index rows indices mine p =
    ap (awaits index) (at_there (row_at rows) indices p) ∙ never_missed index rows (reverse (take p indices)) (slice_get indices p) mine

module _ {capacity : ℕ} (index : ℕ) (rest : List ℕ) (rows : List Row) {producers : List (Option ℕ)} {waiting : ℕ} (keeps : AreTables capacity (index ∷ rest) rows producers waiting) where
  behind_at : (p : ℕ) → fed index (missing_at (stations_at (row_at rows) (index ∷ rest)) (suc p)) ≡ missing_at (stations_at (row_at rows) rest) p
  behind_at p =
      let at = row_at rows in
      let lost = one index in
      let behind : Carries at at lost (reverse (take p rest) ++ index ∷ []) (reverse (take p rest)) =
      subst (Carries at at lost (reverse (take p rest) ++ index ∷ [])) (append-nil (reverse (take p rest)))
      (Carries-behind at at lost (take p rest) (index ∷ []) [] (Each-take (Changes at at lost) rest p (each_behind capacity index rest rows producers waiting waiting keeps)) (Carries-oldest capacity index rest rows producers waiting waiting keeps)) in
      ap (fed index) (at_there at (index ∷ rest) (suc p) ∙ ap (λ xs. missing (stations_at at xs) (station_if at (slice_get rest p))) (reverse-cons index (take p rest)))
      ∙ sym (losing_one index (missing (stations_at at (reverse (take p rest) ++ index ∷ [])) (station_if at (slice_get rest p))))
      ∙ sym (missing_carried at at lost (λ s. refl) (reverse (take p rest) ++ index ∷ []) (reverse (take p rest)) (slice_get rest p) behind)
      ∙ sym (at_there at rest p)

  pub missing_retired : (retired : ℕ) → retired < 256 → length rest < 256 → (t : ℕ) → t < 256 →
      fed index (missing_at (stations_at (row_at rows) (index ∷ rest)) (place_of retired t)) ≡ missing_at (stations_at (row_at rows) rest) (place_of ((retired + 1) % 256) t)
  missing_retired retired small few t inside = elim (cases_eq t retired) [
    | inl same ↦
        let at = row_at rows in
        let first : missing_at (stations_at at (index ∷ rest)) (place_of retired t) ≡ nothing =
        ap (λ u. missing_at (stations_at at (index ∷ rest)) (place_of retired u)) same ∙ ap (missing_at (stations_at at (index ∷ rest))) (own_turn retired small)
        ∙ (λ i. record { first = first_misses (at index).registers.sources.0 i; second = first_misses (at index).registers.sources.1 i }) in
        let behind : length (stations_at at rest) ≤ place_of ((retired + 1) % 256) retired =
        omega (arith, last_turn retired small, few, length-map rest (λ s. station_in s (at s))) in
        ap (fed index) first
        ∙ sym (ap (λ u. missing_at (stations_at at rest) (place_of ((retired + 1) % 256) u)) same
        ∙ past missing nothing (λ older. refl) (stations_at at rest) (place_of ((retired + 1) % 256) retired) behind)
    | inr differ ↦
        ap (λ p. fed index (missing_at (stations_at (row_at rows) (index ∷ rest)) p)) (first_turn retired t small inside differ)
        ∙ behind_at (place_of ((retired + 1) % 256) t)
  ]
