-- The stations from a place on are cut: the producers and how many wait, told anew of those that stay.
use Rattle.std.proofs.Common.{◌≡◌, ℕ, zero, suc, ◌+◌, ◌%◌, ◌<◌, ◌≤◌, Bool, true, false, if◌then◌else◌, Option, Some, None, List, [], ◌∷◌, ◌++◌, length, take, get_or, reverse, refl, ap, sym, ◌∙◌, subst, arith}
use Rattle.std.specs.Int.{from_bool}
use Rattle.reservation_stations.proofs.Entering.{waiting_few}
use Rattle.std.proofs.lemmas.List.{take-map}
use Rattle.reservation_stations.specs.declared.row.Row.{Row}
use Rattle.reservation_stations.specs.Readiness.{Window, is_waiting, is_done, is_register, waiting_count}
use Rattle.reservation_stations.specs.AreTables.{AreTables, AreProducers, Each, row_at, stations_at, station_in, unfinished}
use Rattle.reservation_stations.specs.Changes.{with_producer}
use Rattle.reservation_stations.specs.Turns.{indices_from}
use Rattle.reservation_stations.proofs.Indices.{Each-take, AreDistinct-take}
use Rattle.reservation_stations.proofs.Producers.{get_or-with_producer}
use Rattle.reservation_stations.proofs.Kept.{seen}
use Rattle.reservation_stations.proofs.Leaving.{waiting_count-push, reverse-push}
use Rattle.reservation_stations.proofs.Turns.{indices_more, length-indices}

-- one more of those that stay
module _ (at_turn : List ℕ) (turn place : ℕ) (rows : List Row) (index : ℕ) (read : index ≡ get_or at_turn ((turn + place) % 256) 0) (row : Row) (is : row ≡ row_at rows index) where
  one_more : indices_from at_turn turn (place + 1) ≡ indices_from at_turn turn place ++ index ∷ []
  one_more =
      let e : place + 1 ≡ suc place = omega arith in
      ap (indices_from at_turn turn) e ∙ indices_more at_turn turn place ∙ ap (λ s. indices_from at_turn turn place ++ s ∷ []) (sym read)

  pub producers_more : (producers table : List (Option ℕ)) → length producers ≡ 258 → AreProducers producers (stations_at (row_at rows) (reverse (indices_from at_turn turn place))) →
      table ≡ with_producer row.registers.destination (if is_done row.mark then None else Some index) producers → AreProducers table (stations_at (row_at rows) (reverse (indices_from at_turn turn (place + 1))))
  producers_more producers table every were set register within =
      let older = stations_at (row_at rows) (reverse (indices_from at_turn turn place)) in
      ap (λ xs. get_or xs register None) set
      ∙ get_or-with_producer row.registers.destination (if is_done row.mark then None else Some index) producers register every within
      ∙ ap (λ o. if is_register register row.registers.destination then (if is_done row.mark then None else Some index) else o) (were register within)
      ∙ ap (λ (e : Row). if is_register register e.registers.destination then (if is_done e.mark then None else Some index) else unfinished older register) is
      ∙ ap (λ xs. unfinished (stations_at (row_at rows) xs) register) (sym (ap reverse one_more ∙ reverse-push (indices_from at_turn turn place) index))

  pub waiting_more : (waiting : ℕ) → waiting ≡ waiting_count (stations_at (row_at rows) (indices_from at_turn turn place)) →
      waiting + (if is_waiting row.mark then 1 else 0) ≡ waiting_count (stations_at (row_at rows) (indices_from at_turn turn (place + 1)))
  waiting_more waiting were =
      (λ i. were i + (if is_waiting (is i).mark then 1 else 0))
      ∙ sym (ap (λ xs. waiting_count (stations_at (row_at rows) xs)) one_more ∙ waiting_count-push (row_at rows) (indices_from at_turn turn place) index)

pub waiting_within : (at_turn : List ℕ) (turn place : ℕ) (rows : List Row) → waiting_count (stations_at (row_at rows) (indices_from at_turn turn place)) ≤ place
waiting_within at_turn turn place rows = omega (arith, length-indices at_turn turn place, waiting_few (row_at rows) (indices_from at_turn turn place))

one_if : (b : Bool) → from_bool b ≡ (if b then 1 else 0)
one_if true = refl
one_if false = refl

pub counted_one : (waiting : ℕ) (b : Bool) (by : Bool) → by ≡ b → waiting + from_bool by ≡ waiting + (if b then 1 else 0)
counted_one waiting b by is = ap (λ c. waiting + from_bool c) is ∙ ap (λ n. waiting + n) (one_if b)

pub counted_within : (b : Bool) → from_bool b ≤ 1
counted_within true = omega arith
counted_within false = omega arith

-- the index of a turn among theirs
pub Each-turn : (P : ℕ → Type 0) (at_turn : List ℕ) (turn count place : ℕ) → place < count → Each P (indices_from at_turn turn count) → P (get_or at_turn ((turn + place) % 256) 0)
Each-turn P at_turn turn zero place before each = absurd (omega (arith, before))
Each-turn P at_turn turn (suc count) zero before each =
    let e : turn ≡ turn + 0 = omega arith in subst (λ n. P (get_or at_turn (n % 256) 0)) e each.0
Each-turn P at_turn turn (suc count) (suc place) before each =
    let e : turn + 1 + place ≡ turn + suc place = omega arith in
    subst (λ n. P (get_or at_turn (n % 256) 0)) e (Each-turn P at_turn (turn + 1) count place (omega (arith, before)) each.1)

-- the tables of those that stay
module _ {capacity : ℕ} {indices : List ℕ} {rows : List Row} {producers : List (Option ℕ)} {waiting : ℕ} (keeps : AreTables capacity indices rows producers waiting) (kept : ℕ) where
  pub AreTables-kept : (table : List (Option ℕ)) (left : ℕ) → length table ≡ 258 → get_or table 256 None ≡ None → AreProducers table (stations_at (row_at rows) (reverse (take kept indices))) →
      left ≡ waiting_count (stations_at (row_at rows) (take kept indices)) → AreTables capacity (take kept indices) rows table left
  AreTables-kept table left every nothing are count = record {
    limit = keeps.limit;
    within = Each-take (λ s. s < capacity) indices kept keeps.within;
    distinct = AreDistinct-take indices kept keeps.distinct;
    every_index = keeps.every_index;
    every_register = every;
    each_producer = are;
    no_source = nothing;
    count = count;
  }

pub seen-kept : (capacity : ℕ) (indices : List ℕ) (rows : List Row) {w : Window} → seen capacity indices rows ≡ w → (kept : ℕ) →
    seen capacity (take kept indices) rows ≡ record w { stations = take kept w.stations }
seen-kept capacity indices rows is_seen kept =
    (λ i. record { capacity = capacity; stations = sym (take-map (λ s. station_in s (row_at rows s)) kept indices) i })
    ∙ ap (λ (v : Window). record v { stations = take kept v.stations }) is_seen
