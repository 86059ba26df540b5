-- The counts of a row, from some events to more.
use Rattle.std.proofs.Common.{◌≡◌, ◌∙◌, ℕ, zero, suc, ◌+◌, ◌<◌, ◌==◌, ◌⊎◌, inl, inr, Bool, true, false, if◌then◌else◌, Some, List, [], ◌∷◌, ◌++◌, map, refl, sym, ap, arith}
use Rattle.std.specs.Prelude.{option_map, slice_get}
use Rattle.std.specs.List.{range_with_len}
use Rattle.std.proofs.lemmas.Bool.{cases_eq, eq-eqb, ne_eqb}
use Rattle.std.proofs.lemmas.List.Sums.{sum_by-append, sum_by-cons}
use Rattle.std.proofs.lemmas.Option.{same_Some, slice_get-map, slice_get_within}
use Rattle.insight_model.specs.Profile.{Column, Event, amount_in, column_place, event_columns, spent_columns}
use Rattle.cycle_watch.specs.declared.profile_row.ProfileRow.{ProfileRow}
use Rattle.cycle_watch.specs.Profiled.{HasCounts, capped, counts_of, risen}

-- a count that stands at its largest value stays there
pub capped_more : (a n : ℕ) → capped (capped 0 a) n ≡ capped 0 (a + n)
capped_more a n = omega arith

pub capped_same : (a : ℕ) → capped (capped 0 a) 0 ≡ capped 0 a
capped_same a = omega arith

-- the amount of one event more
abbrev pub amount_of : Column → Event → ℕ
amount_of column event = if column_place event.column == column_place column then event.amount else 0

pub amount_more : (column : Column) (own : List Event) (event : Event) → amount_in column (own ++ event ∷ []) ≡ amount_in column own + amount_of column event
amount_more column own event =
    let one : amount_of column event + 0 ≡ amount_of column event = omega arith in
    sum_by-append (amount_of column) own (event ∷ [])
    ∙ ap (λ (n : ℕ). amount_in column own + n) (sum_by-cons (amount_of column) event [] ∙ one)

-- the place of a column among all
range_get : (from n j v : ℕ) → slice_get (range_with_len from n) j ≡ Some v → v ≡ from + j
range_get from zero j v is = cc
range_get from (suc n) zero v is = let e : from ≡ v = same_Some from v is in omega (arith, e)
range_get from (suc n) (suc j) v is = let e = range_get (from + 1) n j v is in omega (arith, e)

pub event_place : (j : ℕ) (column : Column) → slice_get event_columns j ≡ Some column → column_place column ≡ j
event_place j column is =
    let there : slice_get (range_with_len 0 13) j ≡ Some (column_place column) =
    slice_get-map column_place event_columns j ∙ ap (option_map column_place) is in
    let e = range_get 0 13 j (column_place column) there in omega (arith, e)

pub spent_place : (j : ℕ) (column : Column) → slice_get spent_columns j ≡ Some column → column_place column ≡ 13 + j
spent_place j column is =
    range_get 13 19 j (column_place column) (slice_get-map column_place spent_columns j ∙ ap (option_map column_place) is)

-- one count has risen
same_next : (i k : ℕ) → (suc i == suc k) ≡ (i == k)
same_next i k = by (cases_eq i k)
  where
    by : (i ≡ k) ⊎ (i ≡ k → ⊥) → (suc i == suc k) ≡ (i == k)
    by (inl same) = eq-eqb (suc i) (suc k) (ap suc same) ∙ sym (eq-eqb i k same)
    by (inr apart) = ne_eqb (suc i) (suc k) (λ e. apart (omega (arith, e))) ∙ sym (ne_eqb i k apart)

pub map_here : (g h : Column → ℕ) (columns : List Column) → ((j : ℕ) (column : Column) → slice_get columns j ≡ Some column → h column ≡ g column) → map g columns ≡ map h columns
map_here g h [] are = refl
map_here g h (column ∷ columns) are = λ i. sym (are 0 column refl) i ∷ map_here g h columns (λ j c is. are (suc j) c is) i

pub risen_map : (g h : Column → ℕ) (n : ℕ) (columns : List Column) (k : ℕ) →
    ((j : ℕ) (column : Column) → slice_get columns j ≡ Some column → h column ≡ (if k == j then capped (g column) n else g column)) → risen (map g columns) k n ≡ map h columns
risen_map g h n [] k are = refl
risen_map g h n (column ∷ columns) zero are =
    λ i. sym (are 0 column refl) i
    ∷ map_here g h columns (λ j c is. are (suc j) c is ∙ ap (λ (b : Bool). if b then capped (g c) n else g c) (ne_eqb 0 (suc j) (λ e. omega (arith, e)))) i
risen_map g h n (column ∷ columns) (suc k) are =
    λ i. sym (are 0 column refl ∙ ap (λ (b : Bool). if b then capped (g column) n else g column) (ne_eqb (suc k) 0 (λ e. omega (arith, e)))) i
    ∷ risen_map g h n columns k (λ j c is. are (suc j) c is ∙ ap (λ (b : Bool). if b then capped (g c) n else g c) (same_next k j)) i

-- by one event
module _ (own : List Event) (event : Event) where
  abbrev before : Column → ℕ
  before column = capped 0 (amount_in column own)

  abbrev after : Column → ℕ
  after column = capped 0 (amount_in column (own ++ event ∷ []))

  grown : (column : Column) (b : Bool) → (column_place event.column == column_place column) ≡ b → after column ≡ (if b then capped (before column) event.amount else before column)
  grown column true same =
      ap (capped 0) (amount_more column own event ∙ ap (λ (t : Bool). amount_in column own + (if t then event.amount else 0)) same)
      ∙ sym (capped_more (amount_in column own) event.amount)
  grown column false apart =
      let none : capped 0 (amount_in column own + 0) ≡ before column = omega arith in
      ap (capped 0) (amount_more column own event ∙ ap (λ (t : Bool). amount_in column own + (if t then event.amount else 0)) apart)
      ∙ none

  -- in a column that isn't a cycle's
  pub event_counted : (row next : ProfileRow) → column_place event.column < 13 → HasCounts own row →
      counts_of next ≡ risen (counts_of row) (column_place event.column) event.amount → next.spent ≡ row.spent → HasCounts (own ++ event ∷ []) next
  event_counted row next below has counts spent = record {
    counts =
        counts ∙ ap (λ (ns : List ℕ). risen ns (column_place event.column) event.amount) has.counts
        ∙ risen_map before after event.amount event_columns (column_place event.column)
        (λ j column is. grown column (column_place event.column == j) (ap (λ (n : ℕ). column_place event.column == n) (event_place j column is)));
    spent =
        spent ∙ has.spent
        ∙ map_here before after spent_columns
        (λ j column is. grown column false (ne_eqb (column_place event.column) (column_place column) (λ e. omega (arith, e, below, spent_place j column is))));
  }

  -- in the column of a cause
  pub spent_counted : (row next : ProfileRow) (place : ℕ) → column_place event.column ≡ 13 + place → HasCounts own row →
      counts_of next ≡ counts_of row → next.spent ≡ risen row.spent place event.amount → HasCounts (own ++ event ∷ []) next
  spent_counted row next place at has counts spent = record {
    counts =
        counts ∙ has.counts
        ∙ map_here before after event_columns
        (λ j column is. grown column false (ne_eqb (column_place event.column) (column_place column) (λ e. omega (arith, e, at, event_place j column is, below j column is))));
    spent =
        spent ∙ ap (λ (ns : List ℕ). risen ns place event.amount) has.spent
        ∙ risen_map before after event.amount spent_columns place
        (λ j column is. grown column (place == j) (same_place j column is));
  }
    where
      below : (j : ℕ) (column : Column) → slice_get event_columns j ≡ Some column → j < 13
      below j column is = let within : j < 13 = slice_get_within event_columns j column is in within

      same_place : (j : ℕ) (column : Column) → slice_get spent_columns j ≡ Some column → (column_place event.column == column_place column) ≡ (place == j)
      same_place j column is = by (cases_eq place j)
        where
          by : (place ≡ j) ⊎ (place ≡ j → ⊥) → (column_place event.column == column_place column) ≡ (place == j)
          by (inl same) = eq-eqb (column_place event.column) (column_place column) (omega (arith, at, same, spent_place j column is)) ∙ sym (eq-eqb place j same)
          by (inr apart) =
              ne_eqb (column_place event.column) (column_place column) (λ e. apart (omega (arith, e, at, spent_place j column is))) ∙ sym (ne_eqb place j apart)
