-- Where the stations stand in the list.
use Rattle.std.proofs.Common.{◌≡◌, ◌≢◌, ◌⊎◌, ℕ, zero, suc, ◌+◌, ◌%◌, ◌<◌, ◌≤◌, Option, Some, None, List, [], ◌∷◌, ◌++◌, length, refl, ap, sym, ◌∙◌, inl, inr, arith, take}
use Rattle.std.specs.Prelude.{slice_get, slice_set, replicate}
use Rattle.std.proofs.lemmas.Bool.{cases_eq}
use Rattle.std.proofs.lemmas.Option.{same_Some, slice_get_within}
use Rattle.std.proofs.lemmas.List.{get_or-set_same, get_or-set_other, get_or-replicate, length-replicate, length-take}
use Rattle.reservation_stations.specs.declared.station.Mark.{Mark}
use Rattle.reservation_stations.specs.declared.row.Row.{Row}
use Rattle.reservation_stations.specs.Readiness.{mark_of}
use Rattle.reservation_stations.specs.AreTables.{AreTables, Each, row_at, free_row, stations_at}
use Rattle.reservation_stations.specs.Places.{place_of, place_in, AreTurned}
use Rattle.reservation_stations.proofs.Marking.{mark_of-held}

-- an index has a place in the list, or none has it
pub find_place : (indices : List ℕ) (index : ℕ) → ((place : ℕ) × (slice_get indices place ≡ Some index)) ⊎ Each (λ other. other ≢ index) indices
find_place [] index = inr tt
find_place (other ∷ indices) index = elim (cases_eq other index) [
  | inl same ↦ inl (zero, ap Some same)
  | inr differ ↦ elim (find_place indices index) [ inl found ↦ inl (suc found.0, found.1) | inr none ↦ inr (differ, none) ]
]

pub not_absent : (indices : List ℕ) (place index : ℕ) → slice_get indices place ≡ Some index → Each (λ other. other ≢ index) indices → ⊥
not_absent [] place index there absent = cc
not_absent (other ∷ indices) zero index there absent = absent.0 (same_Some other index there)
not_absent (other ∷ indices) (suc place) index there absent = not_absent indices place index there absent.1

-- a station that has a mark stands in the list
pub marked_in : (at : ℕ → Row) (indices : List ℕ) (index : ℕ) (mark : Mark) → mark_of index (stations_at at indices) ≡ Some mark → (place : ℕ) × (slice_get indices place ≡ Some index)
marked_in at indices index mark is = elim (find_place indices index) [
  | inl found ↦ found
  | inr absent ↦ absurd ((mark_of-held at (λ other. other ≢ index) indices index mark absent is).0 refl)
]

-- a station enters behind the others
pub pushed_at : (indices : List ℕ) (index p s : ℕ) → slice_get (indices ++ index ∷ []) p ≡ Some s → (slice_get indices p ≡ Some s) ⊎ ((p ≡ length indices) × (s ≡ index))
pushed_at [] index zero s there = inr (refl, sym (same_Some index s there))
pushed_at [] index (suc p) s there = absurd cc
pushed_at (other ∷ indices) index zero s there = inl there
pushed_at (other ∷ indices) index (suc p) s there = elim (pushed_at indices index p s there) [ inl was ↦ inl was | inr now ↦ inr (ap suc now.0, now.1) ]

-- tables of no station
pub Keeps_none : (capacity : ℕ) (row : Row) → capacity ≤ 256 → AreTables capacity [] (replicate capacity row) (replicate 258 None) 0
Keeps_none capacity row limit = record {
  limit = limit;
  within = tt;
  distinct = tt;
  every_index = length-replicate capacity row;
  every_register = length-replicate {A = Option ℕ} 258 None;
  each_producer = λ register within. get_or-replicate {A = Option ℕ} 258 register None None (omega (arith, within));
  no_source = get_or-replicate {A = Option ℕ} 258 256 None None (omega arith);
  count = refl;
}

-- the turns as the stations change
pub turned_marked : (retired : ℕ) (indices : List ℕ) (rows : List Row) (index : ℕ) (row : Row) → AreTurned retired indices rows → index < length rows →
    row.turn ≡ (row_at rows index).turn → AreTurned retired indices (slice_set rows index row)
turned_marked retired indices rows index row turned inside turn p s there = elim (cases_eq s index) [
  | inl same ↦
      let mine : row_at (slice_set rows index row) s ≡ row = ap (row_at (slice_set rows index row)) same ∙ get_or-set_same rows index row free_row inside in
      ap (place_in retired) mine ∙ ap (place_of retired) turn ∙ ap (λ k. place_in retired (row_at rows k)) (sym same) ∙ turned p s there
  | inr differ ↦ ap (place_in retired) (get_or-set_other rows index s row free_row differ) ∙ turned p s there
]

pub turned_entered : (retired : ℕ) (indices : List ℕ) (rows : List Row) (index : ℕ) (row : Row) → AreTurned retired indices rows → index < length rows →
    Each (λ other. other ≢ index) indices → retired < 256 → length indices < 256 → row.turn ≡ (retired + length indices) % 256 →
    AreTurned retired (indices ++ index ∷ []) (slice_set rows index row)
turned_entered retired indices rows index row turned inside apart small few turn p s there = elim (pushed_at indices index p s there) [
  | inl was ↦
      let differ : s ≢ index = λ same. not_absent indices p index (was ∙ ap Some same) apart in
      ap (place_in retired) (get_or-set_other rows index s row free_row differ) ∙ turned p s was
  | inr now ↦
      let mine : row_at (slice_set rows index row) s ≡ row = ap (row_at (slice_set rows index row)) now.1 ∙ get_or-set_same rows index row free_row inside in
      let its : place_of retired row.turn ≡ length indices = omega (arith, turn, small, few) in
      ap (place_in retired) mine ∙ its ∙ sym now.0
]

pub turned_retired : (retired index : ℕ) (rest : List ℕ) (rows : List Row) → AreTurned retired (index ∷ rest) rows → retired < 256 →
    AreTurned ((retired + 1) % 256) rest rows
turned_retired retired index rest rows turned small p s there =
    let was = turned (suc p) s there in omega (arith, was, small)

-- the place in a part of the list
pub get_part : {X : Type 0} (xs : List X) (n p : ℕ) → p < n → slice_get (take n xs) p ≡ slice_get xs p
get_part xs zero p within = absurd (omega (arith, within))
get_part [] (suc n) p within = refl
get_part (x ∷ xs) (suc n) zero within = refl
get_part (x ∷ xs) (suc n) (suc p) within = get_part xs n p (omega (arith, within))

pub turned_kept : (retired kept : ℕ) (indices : List ℕ) (rows : List Row) → AreTurned retired indices rows → AreTurned retired (take kept indices) rows
turned_kept retired kept indices rows turned p s there =
    let within : p < kept = omega (arith, slice_get_within (take kept indices) p s there, length-take kept indices) in
    turned p s (sym (get_part indices kept p within) ∙ there)
