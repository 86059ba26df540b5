-- The stores that are done in a row from the oldest on, and the oldest one that isn't done.
use Rattle.std.proofs.Common.{◌≡◌, ℕ, zero, suc, ◌+◌, ◌<◌, ◌≤◌, min, nat_le, true, false, List, [], ◌∷◌, ◌++◌, length, get_or, take, sym, ap, ◌∙◌, arith, Some, None, IsTrue, ◌↔◌, inl, inr}
use Rattle.std.specs.List.{slice_get}
use Rattle.std.proofs.lemmas.Bool.{cases_lt}
use Rattle.std.proofs.lemmas.List.Sums.{prefix_len_passes, prefix_len_stops, prefix_len-le-length}
use Rattle.std.proofs.lemmas.Option.{slice_get_within, get_or_from_slice_get, slice_get_cases, none-some}
use Rattle.load_store_queue.specs.declared.queued.Queued.{Queued}
use Rattle.load_store_queue.specs.Queue.{IsRising, AreOlderDone, done_in_a_row}

-- one more is done
pub done_next : (stores : List Queued) (k : ℕ) (s : Queued) → slice_get stores k ≡ Some s → s.is_done ≡ true → k ≤ done_in_a_row stores → k + 1 ≤ done_in_a_row stores
done_next stores k s here done within =
    let inside = slice_get_within stores k s here in
    let read = get_or_from_slice_get stores k s s here in
    elim (cases_lt k (done_in_a_row stores)) [
      | inl before ↦ omega arith
      | inr end ↦
          let e : done_in_a_row stores ≡ k = omega arith in
          let stops = prefix_len_stops (λ (q : Queued). q.is_done) stores s (omega arith) in
          grind (arith, rw e at stops, read)
    ]

-- the row ends at a store that isn't done
pub row_ends : (stores : List Queued) (k : ℕ) (s : Queued) → slice_get stores k ≡ Some s → s.is_done ≡ false → k ≤ done_in_a_row stores → k ≡ done_in_a_row stores
row_ends stores k s here undone within =
    let read = get_or_from_slice_get stores k s s here in
    elim (cases_lt k (done_in_a_row stores)) [
      | inl before ↦ let passes = prefix_len_passes (λ (q : Queued). q.is_done) stores k s before in grind (arith, passes, read)
      | inr end ↦ omega arith
    ]

-- where all are done
pub all_done : (stores : List Queued) → length stores ≤ done_in_a_row stores → (number : ℕ) → AreOlderDone number stores
all_done stores all number = λ k d within older. prefix_len_passes (λ (q : Queued). q.is_done) stores k d (omega arith)

-- a number has only stores that are done below it exactly where the oldest one that isn't done is not below it
pub oldest_open : (stores : List Queued) (waiting : Queued) (number : ℕ) → slice_get stores (done_in_a_row stores) ≡ Some waiting → IsRising stores
    → IsTrue (nat_le number waiting.number) ↔ AreOlderDone number stores
oldest_open stores waiting number here rising =
    let row = done_in_a_row stores in
    let inside = slice_get_within stores row waiting here in
    let read : (d : Queued) → get_or stores row d ≡ waiting = λ d. get_or_from_slice_get stores row waiting d here in
    let undone : waiting.is_done ≡ false = rw (read waiting) at (prefix_len_stops (λ (q : Queued). q.is_done) stores waiting inside) in (
      (λ above k d within older. elim (cases_lt k row) [
        | inl before ↦ prefix_len_passes (λ (q : Queued). q.is_done) stores k d before
        | inr behind ↦ elim (cases_lt row k) [
          | inl later ↦ let up : waiting.number < (get_or stores k d).number = rw (read d) at (rising row k d later within) in grind (arith, up)
          | inr same ↦ let e : row ≡ k = omega arith in let here : get_or stores k d ≡ waiting = rw e at (read d) in grind (arith, ap (λ (q : Queued). q.number) here)
        ]
      ]),
      (λ older. elim (cases_lt waiting.number number) [
        | inl below ↦
            let lower : (get_or stores row waiting).number < number = rw (read waiting) below in
            let done : waiting.is_done ≡ true = rw (read waiting) at (older row waiting inside lower) in
            grind (arith, done, undone)
        | inr above ↦ grind arith
      ]),
    )

-- one store more that isn't done
pub row_with_open : (stores : List Queued) (s : Queued) → s.is_done ≡ false → done_in_a_row (stores ++ s ∷ []) ≡ done_in_a_row stores
row_with_open [] s undone = grind (arith, undone)
row_with_open (t ∷ stores) s undone = let rest = row_with_open stores s undone in grind (arith, rest)

-- of the first k stores
pub row_of_first : (k : ℕ) (stores : List Queued) → done_in_a_row (take k stores) ≡ min (done_in_a_row stores) k
row_of_first zero stores = omega arith
row_of_first (suc k) [] = omega arith
row_of_first (suc k) (s ∷ stores) = let rest = row_of_first k stores in grind (arith, rest)

-- no more are done in a row than there are
pub row_within : (stores : List Queued) → done_in_a_row stores ≤ length stores
row_within stores = prefix_len-le-length (λ (q : Queued). q.is_done) stores

-- a place with no store is behind them all
pub none_behind : (stores : List Queued) (k : ℕ) → slice_get stores k ≡ None → length stores ≤ k
none_behind stores k none = elim (slice_get_cases stores k).1 [
  | inl some ↦ absurd (none-some some.0 (sym none ∙ some.2))
  | inr past ↦ past.0
]
