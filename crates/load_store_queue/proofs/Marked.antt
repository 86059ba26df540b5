-- Stores with rising numbers after one of them was marked as done.
use Rattle.std.proofs.Common.{◌≡◌, ℕ, zero, suc, ◌<◌, ◌≤◌, true, List, [], ◌∷◌, length, get_or, set, refl, ap, ◌∙◌, arith, nat_lt, Some, IfSome, All, Any, inl, inr}
use Rattle.std.specs.List.{slice_get}
use Rattle.std.proofs.lemmas.Bool.{cases_lt}
use Rattle.std.proofs.lemmas.List.{get_or-map, length-map}
use Rattle.std.proofs.lemmas.List.Sums.{prefix_len_stops}
use Rattle.std.proofs.lemmas.Option.{slice_get-get_or, slice_get_within, get_or_from_slice_get}
use Rattle.circular_buffer.specs.Buffer.{Buffer}
use Rattle.load_store_queue.specs.declared.queued.Queued.{Queued}
use Rattle.load_store_queue.specs.Queue.{IsRising, done_if, marked, done_in_a_row}
use Rattle.load_store_queue.proofs.Rising.{count_below, above_place, first_below, rest_rises}

-- as many stores are below a number that is held as stand before it
held_place : (n : ℕ) (stores : List Queued) → IsRising stores → (held : Any (λ q. q.number ≡ n) stores) → count_below n stores ≡ held.0
held_place n stores rising held =
    let k = held.0 in
    let x = held.1 in
    let number : (get_or stores k x).number ≡ n = ap (λ (q : Queued). q.number) held.3 ∙ held.4 in
    let here = slice_get-get_or stores k x held.2 in
    let before = above_place n stores k (get_or stores k x) here (omega arith) in
    elim (cases_lt (count_below n stores) k) [
      | inl earlier ↦
          let stops = prefix_len_stops (λ (q : Queued). nat_lt q.number n) stores x (omega arith) in
          let up = rising (count_below n stores) k x earlier held.2 in
          grind (arith, stops, up, number)
      | inr same ↦ omega arith
    ]

pub place_within : (n : ℕ) (stores : List Queued) → IsRising stores → Any (λ q. q.number ≡ n) stores → count_below n stores < length stores
place_within n stores rising held = omega (arith, held_place n stores rising held, held.2)

-- a mark changes no number
done_if-number : (n : ℕ) (s : Queued) → (done_if n s).number ≡ s.number
done_if-number n s = grind arith

pub marked_rises : (n : ℕ) (stores : List Queued) → IsRising stores → IsRising (marked n stores)
marked_rises n stores rising = λ i j d before within.
    let inside : j < length stores = omega (arith, length-map stores (done_if n)) in
    rw (get_or-map (done_if n) stores i d d (omega arith), get_or-map (done_if n) stores j d d inside, done_if-number n (get_or stores i d), done_if-number n (get_or stores j d))
    (rising i j d before inside)

-- nor does it where all numbers are above
none_marked : (n : ℕ) (stores : List Queued) → All (λ q. n < q.number) stores → marked n stores ≡ stores
none_marked n [] above = refl
none_marked n (s ∷ stores) above =
    let here : n < s.number = above zero s (omega arith) in
    let rest : marked n stores ≡ stores = none_marked n stores (λ k d within. above (suc k) d (omega arith)) in
    grind (arith, rest)

-- the store at the place of the number is the one that is marked
set_marks : (n : ℕ) (stores : List Queued) (k : ℕ) (s : Queued) → IsRising stores → slice_get stores k ≡ Some s → s.number ≡ n
    → set stores k (record s { is_done = true }) ≡ marked n stores
set_marks n [] k s rising here number = grind arith
set_marks n (t ∷ stores) zero s rising here number =
    let same : t ≡ s = grind arith in
    let later = first_below t stores rising in
    let rest : marked n stores ≡ stores = none_marked n stores (λ k d within. rw (← number, ← same) (later k d within)) in
    grind (arith, rest, same)
set_marks n (t ∷ stores) (suc k) s rising here number =
    let rest = set_marks n stores k s (rest_rises t stores rising) here number in
    let inside = slice_get_within stores k s here in
    let up : t.number < (get_or stores k s).number = first_below t stores rising k s inside in
    let read : get_or stores k s ≡ s = get_or_from_slice_get stores k s s here in
    let below : t.number < n = rw (read, number) at up in
    grind (arith, rest, below)

pub finish_marks : (n place : ℕ) (old new : Buffer Queued) → place ≡ count_below n old.items → IsRising old.items → Any (λ q. q.number ≡ n) old.items
    → IfSome (slice_get old.items place) (λ s. new ≡ record old { items = set old.items place (record s { is_done = true }) })
    → new ≡ record old { items = marked n old.items }
finish_marks n place old new below rising held finished =
    let k = held.0 in
    let at : place ≡ k = below ∙ held_place n old.items rising held in
    let here : slice_get old.items k ≡ Some held.1 = slice_get-get_or old.items k held.1 held.2 ∙ ap Some held.3 in
    let done = rw (at, here) at finished in
    done ∙ ap (λ items. let ring : Buffer Queued = record old { items = items } in ring) (set_marks n old.items k held.1 rising here held.4)

-- what was done in a row still is
pub row_of_marked : (n : ℕ) (stores : List Queued) → done_in_a_row stores ≤ done_in_a_row (marked n stores)
row_of_marked n [] = omega arith
row_of_marked n (s ∷ stores) = let rest = row_of_marked n stores in grind (arith, rest)
