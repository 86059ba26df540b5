-- Stores with rising numbers: where a number stands among them, and what is below it.
use Rattle.std.proofs.Common.{◌≡◌, ℕ, zero, suc, ◌+◌, ◌-◌, ◌<◌, ◌≤◌, nat_lt, List, [], ◌∷◌, ◌++◌, length, get_or, take, refl, arith, Some, IfSome, All, inl, inr}
use Rattle.std.specs.List.{prefix_len}
use Rattle.std.proofs.lemmas.Bool.{cases_lt}
use Rattle.std.proofs.lemmas.List.Kept.{AllPairs-filter}
use Rattle.std.proofs.lemmas.List.Quantifiers.{all_pairs_push}
use Rattle.std.proofs.lemmas.List.Sums.{prefix_len_passes, prefix_len_stops, prefix_len-le-length}
use Rattle.std.proofs.lemmas.Option.{slice_get-get_or, slice_get_within, get_or_from_slice_get}
use Rattle.std.specs.List.{slice_get}
use Rattle.load_store_queue.specs.declared.queued.Queued.{Queued}
use Rattle.load_store_queue.specs.Queue.{IsRising, youngest, below_number}

-- how many of the oldest stores have numbers below n
abbrev pub count_below : ℕ → List Queued → ℕ
count_below n stores = prefix_len (λ q. nat_lt q.number n) stores

-- a store whose number is below n stands before that place
pub below_place : (n : ℕ) (stores : List Queued) (k : ℕ) (s : Queued) → slice_get stores k ≡ Some s → IsRising stores → s.number < n → k < count_below n stores
below_place n stores k s here rising below =
    let within = slice_get_within stores k s here in
    let read = get_or_from_slice_get stores k s s here in
    elim (cases_lt k (count_below n stores)) [
      | inl before ↦ before
      | inr behind ↦
          let stops = prefix_len_stops (λ (q : Queued). nat_lt q.number n) stores s (omega arith) in
          elim (cases_lt (count_below n stores) k) [
            | inl later ↦ let up = rising (count_below n stores) k s later within in grind (arith, stops, up, read)
            | inr same ↦ let e : count_below n stores ≡ k = omega arith in grind (arith, rw e at stops, read)
          ]
    ]

-- and another one doesn't
pub above_place : (n : ℕ) (stores : List Queued) (k : ℕ) (s : Queued) → slice_get stores k ≡ Some s → n ≤ s.number → count_below n stores ≤ k
above_place n stores k s here above =
    let read = get_or_from_slice_get stores k s s here in
    elim (cases_lt k (count_below n stores)) [
      | inl before ↦ let passes = prefix_len_passes (λ (q : Queued). nat_lt q.number n) stores k s before in grind (arith, passes, read)
      | inr behind ↦ behind
    ]

-- the oldest store is below all later ones, and the later ones rise
pub first_below : (s : Queued) (stores : List Queued) → IsRising (s ∷ stores) → All (λ q. s.number < q.number) stores
first_below s stores rising = λ k d within. rising zero (suc k) d (omega arith) (omega arith)

pub rest_rises : (s : Queued) (stores : List Queued) → IsRising (s ∷ stores) → IsRising stores
rest_rises s stores rising = λ i j d before within. rising (suc i) (suc j) d (omega arith) (omega arith)

-- where every number is n or above, none is below
none_below : (n : ℕ) (stores : List Queued) → All (λ q. n ≤ q.number) stores → below_number n stores ≡ []
none_below n [] from = refl
none_below n (s ∷ stores) from =
    let here : n ≤ s.number = from zero s (omega arith) in
    let rest : below_number n stores ≡ [] = none_below n stores (λ k d within. from (suc k) d (omega arith)) in
    grind (arith, rest)

-- the first ones are those below n
pub take_below : (n : ℕ) (stores : List Queued) → IsRising stores → take (count_below n stores) stores ≡ below_number n stores
take_below n [] rising = refl
take_below n (s ∷ stores) rising =
    let rest = take_below n stores (rest_rises s stores rising) in
    let later = first_below s stores rising in
    let none : n ≤ s.number → below_number n stores ≡ [] = λ from. none_below n stores (λ k d within. omega (arith, later k d within)) in
    let one : take (1 + count_below n stores) (s ∷ stores) ≡ s ∷ take (count_below n stores) stores =
    let e : 1 + count_below n stores ≡ suc (count_below n stores) = omega arith in rw e refl
    in
    grind (arith, rest, none, one)

pub below_rises : (n : ℕ) (stores : List Queued) → IsRising stores → IsRising (below_number n stores)
below_rises n stores rising = AllPairs-filter (λ s t. s.number < t.number) (λ s. nat_lt s.number n) stores rising

-- a store above the youngest one goes on rising
pub rising_with_one_more : (stores : List Queued) (s : Queued) → IsRising stores → IfSome (youngest stores) (λ last. last.number < s.number) → IsRising (stores ++ s ∷ [])
rising_with_one_more stores s rising above = all_pairs_push (λ s t. s.number < t.number) stores s rising (λ k d within.
    let last : youngest stores ≡ Some (get_or stores (length stores - 1) d) = slice_get-get_or stores (length stores - 1) d (omega arith) in
    let below : (get_or stores (length stores - 1) d).number < s.number = rw last at above in
    elim (cases_lt k (length stores - 1)) [
      | inl earlier ↦ omega (arith, rising k (length stores - 1) d earlier (omega arith))
      | inr last ↦ let e : k ≡ length stores - 1 = omega arith in rw e below
    ])

pub count_within : (n : ℕ) (stores : List Queued) → count_below n stores ≤ length stores
count_within n stores = prefix_len-le-length (λ (q : Queued). nat_lt q.number n) stores
