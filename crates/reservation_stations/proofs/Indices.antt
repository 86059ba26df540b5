-- Lists of indices, and the stations that hold them.
use Rattle.std.proofs.Common.{◌≡◌, ◌≢◌, ℕ, zero, suc, ◌==◌, if◌then◌else◌, Some, None, List, [], ◌∷◌, ◌++◌, map, reverse, take, refl, ap, sym, ◌∙◌, inl, inr, eq-eqb, subst}
use Rattle.std.proofs.lemmas.Bool.{cases_eq, ne_eqb}
use Rattle.std.proofs.lemmas.List.{append_assoc, reverse-append, map-append}
use Rattle.reservation_stations.specs.declared.station.Station.{Station}
use Rattle.reservation_stations.specs.declared.row.Row.{Row}
use Rattle.reservation_stations.specs.Readiness.{station_of}
use Rattle.reservation_stations.specs.AreTables.{Each, AreDistinct, stations_at, station_in}

pub Each-map : (P Q : ℕ → Type 0) → ((index : ℕ) → P index → Q index) → (indices : List ℕ) → Each P indices → Each Q indices
Each-map P Q then_so [] each = tt
Each-map P Q then_so (index ∷ indices) each = (then_so index each.0, Each-map P Q then_so indices each.1)

pub Each-push : (P : ℕ → Type 0) (indices : List ℕ) (index : ℕ) → Each P indices → P index → Each P (indices ++ index ∷ [])
Each-push P [] index each here = (here, tt)
Each-push P (other ∷ indices) index each here = (each.0, Each-push P indices index each.1 here)

pub Each-take : (P : ℕ → Type 0) (indices : List ℕ) (n : ℕ) → Each P indices → Each P (take n indices)
Each-take P indices zero each = tt
Each-take P [] (suc n) each = tt
Each-take P (index ∷ indices) (suc n) each = (each.0, Each-take P indices n each.1)

pub AreDistinct-take : (indices : List ℕ) (n : ℕ) → AreDistinct indices → AreDistinct (take n indices)
AreDistinct-take indices zero distinct = tt
AreDistinct-take [] (suc n) distinct = tt
AreDistinct-take (index ∷ indices) (suc n) distinct = (Each-take (λ other. other ≢ index) indices n distinct.0, AreDistinct-take indices n distinct.1)

pub AreDistinct-push : (indices : List ℕ) (index : ℕ) → AreDistinct indices → Each (λ other. other ≢ index) indices → AreDistinct (indices ++ index ∷ [])
AreDistinct-push [] index distinct fresh = (tt, tt)
AreDistinct-push (other ∷ indices) index distinct fresh =
    (Each-push (λ s. s ≢ other) indices index distinct.0 (λ e. fresh.0 (sym e)), AreDistinct-push indices index distinct.1 fresh.1)

-- in reverse
pub reverse-cons : {X : Type 0} (x : X) (xs : List X) → reverse (x ∷ xs) ≡ reverse xs ++ x ∷ []
reverse-cons x xs = reverse-append (x ∷ []) xs

pub reverse_behind : (index : ℕ) (indices older : List ℕ) → reverse (index ∷ indices) ++ older ≡ reverse indices ++ (index ∷ older)
reverse_behind index indices older = ap (λ xs. xs ++ older) (reverse-cons index indices) ∙ append_assoc (reverse indices) (index ∷ []) older

pub reverse-map : (f : ℕ → Station) (indices : List ℕ) → reverse (map f indices) ≡ map f (reverse indices)
reverse-map f [] = refl
reverse-map f (index ∷ indices) =
    reverse-cons (f index) (map f indices) ∙ ap (λ xs. xs ++ f index ∷ []) (reverse-map f indices)
    ∙ sym (map-append f (reverse indices) (index ∷ [])) ∙ ap (map f) (sym (reverse-cons index indices))

-- what holds of each index in the list holds of that of a station, and the station is its row's
module _ (at : ℕ → Row) (P : ℕ → Type 0) where
  pub station_of-held : (indices : List ℕ) (index : ℕ) (station : Station) → Each P indices → station_of index (stations_at at indices) ≡ Some station →
      P index × (station ≡ station_in index (at index))
  station_of-held [] index station each found = absurd cc
  station_of-held (other ∷ indices) index station each found = elim (cases_eq other index) [
    | inl same ↦
        let here : (if other == index then Some (station_in other (at other)) else station_of index (stations_at at indices)) ≡ Some station = found in
        let first : Some (station_in other (at other)) ≡ Some station = rw (eq-eqb other index same) at here in
        (subst P same each.0, cc)
    | inr differ ↦
        let here : (if other == index then Some (station_in other (at other)) else station_of index (stations_at at indices)) ≡ Some station = found in
        station_of-held indices index station each.1 (rw (ne_eqb other index differ) at here)
  ]

-- an index that no station holds isn't in the list
pub station_of-free : (at : ℕ → Row) (indices : List ℕ) (index : ℕ) → station_of index (stations_at at indices) ≡ None → Each (λ other. other ≢ index) indices
station_of-free at [] index free = tt
station_of-free at (other ∷ indices) index free = elim (cases_eq other index) [
  | inl same ↦
      let here : (if other == index then Some (station_in other (at other)) else station_of index (stations_at at indices)) ≡ None = free in
      let first : Some (station_in other (at other)) ≡ None = rw (eq-eqb other index same) at here in
      absurd cc
  | inr differ ↦
      let here : (if other == index then Some (station_in other (at other)) else station_of index (stations_at at indices)) ≡ None = free in
      (differ, station_of-free at indices index (rw (ne_eqb other index differ) at here))
]
