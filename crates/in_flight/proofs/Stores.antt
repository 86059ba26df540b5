-- The stores among slots whose numbers follow one another, as the store queue has them.
use Rattle.std.proofs.Common.{◌≡◌, ◌↔◌, ℕ, zero, suc, ◌+◌, ◌-◌, ◌≤◌, ◌<◌, ◌==◌, nat_lt, if◌then◌else◌, Bool, true, false, Some, List, [], ◌∷◌, ◌++◌, map, filter, reverse, length, take, drop, refl, ap, sym, ◌∙◌, arith, subst, IsTrue, IfSome, All, Any, inl, inr}
use Rattle.std.specs.Prelude.{slice_get, slice_set}
use Rattle.std.proofs.lemmas.Bool.{cases_Bool, false≢true, eq-eqb, ne_eqb, le-ltb, lt-ltb}
use Rattle.std.proofs.lemmas.List.{map-append, append-nil, length-take, reverse-append}
use Rattle.std.proofs.lemmas.List.Elements.{filter-append, All-cons, All-head, All-tail, All-filter, All-map, All-nil}
use Rattle.std.proofs.lemmas.Option.{slice_get-get_or, slice_get_within, get_or_from_slice_get}
use Rattle.reorder_buffer.specs.declared.slot.Slot.{Slot}
use Rattle.reorder_buffer.specs.declared.slot.SlotState.TheVariants.{Waiting, Done}
use Rattle.reorder_buffer.proofs.Consecutive.{count_others, one_more}
use Rattle.reorder_buffer.specs.Window.{IsConsecutive, below_number, count_from, youngest as window_youngest}
use Rattle.load_store_queue.specs.declared.queued.Queued.{Queued}
use Rattle.load_store_queue.specs.Queue.{AreOlderDone, marked, done_if, youngest}
use Rattle.load_store_queue.specs.Queue as queue
use Rattle.mono_model.specs.Window.{is_store_class}
use Rattle.timing_side.specs.Slots.{is_done_state}
use Rattle.timing_side.specs.Issue.{is_unfinished_store, are_stores_done}
use Rattle.in_flight.specs.Flight.{older_at}
use Rattle.in_flight.specs.Step.{is_store, queued_as, stores_in, put_in, finished_in}

same_first : {X : Type 0} (x y : X) → Some x ≡ Some y → x ≡ y
same_first x y e = cc

-- the slots behind the oldest follow one another too, with higher numbers
rest_follows : (slot : Slot) (slots : List Slot) → IsConsecutive (slot ∷ slots) → IsConsecutive slots
rest_follows slot slots consecutive = λ k d within. let e : suc k + 1 ≡ suc (k + 1) = omega arith in rw e at (consecutive (suc k) d (omega arith))

later : (slot : Slot) (slots : List Slot) → IsConsecutive (slot ∷ slots) → All (λ other. slot.number < other.number) slots
later slot [] consecutive = All-nil (λ (other : Slot). slot.number < other.number)
later slot (next ∷ slots) consecutive =
    let up : next.number ≡ slot.number + 1 = consecutive 0 slot (omega arith) in
    let behind = later next slots (rest_follows slot (next ∷ slots) consecutive) in
    All-cons (λ (other : Slot). slot.number < other.number) next slots (omega arith) (λ k d within. omega (arith, behind k d within, up))

-- a slot behind the oldest has a higher number, and no slot from the oldest on has a lower one
later_at : (first : Slot) (slots : List Slot) (place : ℕ) (slot : Slot) → IsConsecutive (first ∷ slots) → slice_get slots place ≡ Some slot → first.number < slot.number
later_at first slots place slot consecutive here =
    let read = get_or_from_slice_get slots place slot slot here in
    rw read at (later first slots consecutive place slot (slice_get_within slots place slot here))

from_here : (slot : Slot) (slots : List Slot) → IsConsecutive (slot ∷ slots) → All (λ other. slot.number ≤ other.number) (slot ∷ slots)
from_here slot slots consecutive =
    let behind = later slot slots consecutive in
    All-cons (λ (other : Slot). slot.number ≤ other.number) slot slots (omega arith) (λ k d within. omega (arith, behind k d within))

-- the slots in front of one have lower numbers
front_below : (slots : List Slot) (place : ℕ) (slot : Slot) → IsConsecutive slots → slice_get slots place ≡ Some slot → All (λ other. other.number < slot.number) (take place slots)
front_below [] place slot consecutive here = absurd cc
front_below (first ∷ slots) zero slot consecutive here = All-nil (λ (other : Slot). other.number < slot.number)
front_below (first ∷ slots) (suc place) slot consecutive here =
    All-cons (λ (other : Slot). other.number < slot.number) first (take place slots)
    (later_at first slots place slot consecutive here)
    (front_below slots place slot (rest_follows first slots consecutive) here)

-- what holds of the numbers of slots holds of those of the stores among them
stores_hold : (P : ℕ → Type 0) (slots : List Slot) → All (λ slot. P slot.number) slots → All (λ store. P store.number) (stores_in slots)
stores_hold P slots each = All-map (λ (store : Queued). P store.number) queued_as (filter is_store slots) (All-filter is_store (λ (slot : Slot). P slot.number) slots each)

pub stores-append : (slots others : List Slot) → stores_in (slots ++ others) ≡ stores_in slots ++ stores_in others
stores-append slots others = ap (map queued_as) (filter-append is_store slots others) ∙ map-append queued_as (filter is_store slots) (filter is_store others)

-- no more than there are slots
stores_within : (slots : List Slot) → length (stores_in slots) ≤ length slots
stores_within [] = omega arith
stores_within (slot ∷ slots) = elim (cases_Bool (is_store slot)) [
  | inl does ↦ rw does (omega (arith, stores_within slots))
  | inr lacks ↦ rw lacks (omega (arith, stores_within slots))
]

-- the stores in front of a slot are all done exactly where those of lower numbers are
older_done : (slots : List Slot) (place : ℕ) (slot : Slot) → IsConsecutive slots → slice_get slots place ≡ Some slot
    → (are_stores_done (take place slots) ≡ true) ↔ AreOlderDone slot.number (stores_in slots)
older_done [] place slot consecutive here = absurd cc
older_done (first ∷ slots) zero slot consecutive here =
    let same = same_first first slot here in
    let above = stores_hold (λ n. first.number ≤ n) (first ∷ slots) (from_here first slots consecutive) in (
      (λ all. rw (← same) (λ k d within below. absurd (omega (arith, above k d within, below)))),
      (λ all. refl),
    )
older_done (first ∷ slots) (suc place) slot consecutive here =
    let P : Queued → Type 0 = λ q. q.number < slot.number → IsTrue q.is_done in
    let before = later_at first slots place slot consecutive here in
    let behind = older_done slots place slot (rest_follows first slots consecutive) here in
    elim (cases_Bool (is_store first)) [
      | inr lacks ↦ rw lacks behind
      | inl does ↦ elim (cases_Bool (is_done_state first.state)) [
        | inl done ↦ rw (does, done) (
          (λ front. All-cons P (queued_as first) (stores_in slots) (λ below. done) (behind.0 front)),
          (λ all. behind.1 (All-tail P (queued_as first) (stores_in slots) all)),
        )
        | inr undone ↦ rw (does, undone) (
          (λ front. absurd (false≢true front)),
          (λ all. absurd (false≢true (sym undone ∙ All-head P (queued_as first) (stores_in slots) all before))),
        )
      ]
    ]

-- in either order
stores_done-append : (slots others : List Slot) → are_stores_done (slots ++ others) ≡ (if are_stores_done slots then are_stores_done others else false)
stores_done-append [] others = refl
stores_done-append (slot ∷ slots) others = elim (cases_Bool (is_unfinished_store slot)) [
  | inl undone ↦ rw undone refl
  | inr done ↦ rw done (stores_done-append slots others)
]

stores_done-reverse : (slots : List Slot) → are_stores_done (reverse slots) ≡ are_stores_done slots
stores_done-reverse [] = refl
stores_done-reverse (slot ∷ slots) =
    let turned = ap are_stores_done (reverse-append (slot ∷ []) slots) ∙ stores_done-append (reverse slots) (slot ∷ []) in
    elim (cases_Bool (is_unfinished_store slot)) [
      | inl undone ↦ rw (turned, undone) (elim (cases_Bool (are_stores_done (reverse slots))) [ inl all ↦ rw all refl | inr some ↦ rw some refl ])
      | inr done ↦ rw (turned, done, stores_done-reverse slots) (elim (cases_Bool (are_stores_done slots)) [ inl all ↦ rw all refl | inr some ↦ rw some refl ])
    ]

-- two tests of one fact
same_tests : (a b : Bool) (P : Type 0) → (IsTrue a ↔ P) → ((b ≡ true) ↔ P) → a ≡ b
same_tests true true P a b = refl
same_tests true false P a b = sym (b.1 (a.0 refl))
same_tests false true P a b = a.1 (b.0 refl)
same_tests false false P a b = refl

-- the queue's answer
pub stores_done_at : (slots : List Slot) (place : ℕ) (slot : Slot) (answer : Bool) → IsConsecutive slots → slice_get slots place ≡ Some slot
    → (IsTrue answer ↔ AreOlderDone slot.number (stores_in slots)) → answer ≡ are_stores_done (older_at slots place)
stores_done_at slots place slot answer consecutive here asked =
    same_tests answer (are_stores_done (take place slots)) (AreOlderDone slot.number (stores_in slots)) asked (older_done slots place slot consecutive here)
    ∙ sym (stores_done-reverse (take place slots))

youngest_holds : (P : Queued → Type 0) (stores : List Queued) → All P stores → IfSome (youngest stores) P
youngest_holds P [] each = tt
youngest_holds P (store ∷ stores) each =
    let last = slice_get-get_or (store ∷ stores) (length stores) store (omega arith) in
    let e : suc (length stores) - 1 ≡ length stores = omega arith in
    rw (e, last) (each (length stores) store (omega arith))

last_at : (slots : List Slot) (slot : Slot) → slice_get (slots ++ slot ∷ []) (length slots) ≡ Some slot
last_at [] slot = refl
last_at (first ∷ slots) slot = last_at slots slot

front_of : (slots : List Slot) (slot : Slot) → take (length slots) (slots ++ slot ∷ []) ≡ slots
front_of [] slot = refl
front_of (first ∷ slots) slot = ap (λ rest. first ∷ rest) (front_of slots slot)

-- the numbers of slots are below that of the one behind them
module _ (slots : List Slot) (slot : Slot) (consecutive : IsConsecutive slots) (follows : IfSome (window_youngest slots) (λ last. slot.number ≡ last.number + 1)) where
  all_below : All (λ (other : Slot). other.number < slot.number) slots
  all_below =
      subst (All (λ (other : Slot). other.number < slot.number)) (front_of slots slot)
      (front_below (slots ++ slot ∷ []) (length slots) slot (one_more slots slot consecutive follows) (last_at slots slot))

  pub put_above : IfSome (youngest (stores_in slots)) (λ last. last.number < slot.number)
  put_above = youngest_holds (λ store. store.number < slot.number) (stores_in slots) (stores_hold (λ n. n < slot.number) slots all_below)

pub put_room : (slots : List Slot) → length (stores_in slots) ≤ length slots
put_room slots = stores_within slots

pub puts : (slots : List Slot) (slot : Slot) → slot.state ≡ Waiting → put_in slot (stores_in slots) ≡ stores_in (slots ++ slot ∷ [])
puts slots slot waiting = elim (cases_Bool (is_store slot)) [
  | inl does ↦
      let one : stores_in (slot ∷ []) ≡ queued_as slot ∷ [] = rw does refl in
      let as_queued : queued_as slot ≡ record { number = slot.number; is_done = false } = λ i. record { number = slot.number; is_done = is_done_state (waiting i) } in
      rw does (ap (λ q. stores_in slots ++ q ∷ []) (sym as_queued) ∙ ap (λ rest. stores_in slots ++ rest) (sym one) ∙ sym (stores-append slots (slot ∷ [])))
  | inr lacks ↦
      let one : stores_in (slot ∷ []) ≡ [] = rw lacks refl in
      rw lacks (sym (append-nil (stores_in slots)) ∙ ap (λ rest. stores_in slots ++ rest) (sym one) ∙ sym (stores-append slots (slot ∷ [])))
]

-- the oldest slot, where it stores
pub leave_store : (slots : List Slot) (slot : Slot) → slice_get slots 0 ≡ Some slot → is_store slot ≡ true → stores_in slots ≡ queued_as slot ∷ stores_in (drop 1 slots)
leave_store [] slot here does = absurd cc
leave_store (first ∷ slots) slot here does =
    let one : stores_in (slot ∷ slots) ≡ queued_as slot ∷ stores_in slots = rw does refl in
    ap (λ (s : Slot). stores_in (s ∷ slots)) (same_first first slot here) ∙ one

pub leave_other : (slots : List Slot) (slot : Slot) → slice_get slots 0 ≡ Some slot → is_store slot ≡ false → stores_in slots ≡ stores_in (drop 1 slots)
leave_other [] slot here lacks = absurd cc
leave_other (first ∷ slots) slot here lacks =
    let one : stores_in (slot ∷ slots) ≡ stores_in slots = rw lacks refl in
    ap (λ (s : Slot). stores_in (s ∷ slots)) (same_first first slot here) ∙ one

-- a slot that goes on in its place, and keeps its place in the queue
pub stores-set : (slots : List Slot) (place : ℕ) (slot new : Slot) → slice_get slots place ≡ Some slot → stores_in (new ∷ []) ≡ stores_in (slot ∷ [])
    → stores_in (slice_set slots place new) ≡ stores_in slots
stores-set [] place slot new here same = absurd cc
stores-set (first ∷ slots) zero slot new here same =
    stores-append (new ∷ []) slots ∙ ap (λ front. front ++ stores_in slots) (same ∙ ap (λ (s : Slot). stores_in (s ∷ [])) (sym (same_first first slot here)))
    ∙ sym (stores-append (first ∷ []) slots)
stores-set (first ∷ slots) (suc place) slot new here same =
    stores-append (first ∷ []) (slice_set slots place new) ∙ ap (λ rest. stores_in (first ∷ []) ++ rest) (stores-set slots place slot new here same)
    ∙ sym (stores-append (first ∷ []) slots)

-- a slot that doesn't store
pub set_other : (slots : List Slot) (place : ℕ) (slot new : Slot) → slice_get slots place ≡ Some slot → is_store slot ≡ false → is_store new ≡ false
    → stores_in (slice_set slots place new) ≡ stores_in slots
set_other slots place slot new here lacks none = stores-set slots place slot new here (rw (lacks, none) refl)

-- a store that isn't done before and after
pub set_undone : (slots : List Slot) (place : ℕ) (slot new : Slot) → slice_get slots place ≡ Some slot → new.class ≡ slot.class → queued_as new ≡ queued_as slot
    → stores_in (slice_set slots place new) ≡ stores_in slots
set_undone slots place slot new here class queued = stores-set slots place slot new here (elim (cases_Bool (is_store slot)) [
  | inl does ↦ let also : is_store new ≡ true = ap is_store_class class ∙ does in rw (does, also) (ap (λ q. q ∷ []) queued)
  | inr lacks ↦ let also : is_store new ≡ false = ap is_store_class class ∙ lacks in rw (lacks, also) refl
])

-- a store that is done now is the one of its number
pub store_held : (slots : List Slot) (place : ℕ) (slot : Slot) → slice_get slots place ≡ Some slot → is_store slot ≡ true → Any (λ store. store.number ≡ slot.number) (stores_in slots)
store_held [] place slot here does = absurd cc
store_held (first ∷ slots) zero slot here does =
    let same = same_first first slot here in
    rw (same, does) (zero, queued_as slot, omega arith, refl, refl)
store_held (first ∷ slots) (suc place) slot here does =
    let held = store_held slots place slot here does in
    elim (cases_Bool (is_store first)) [
      | inl store ↦ rw store (suc held.0, held.1, omega (arith, held.2), held.3, held.4)
      | inr other ↦ rw other held
    ]

none_marked : (n : ℕ) (stores : List Queued) → All (λ store. n < store.number) stores → marked n stores ≡ stores
none_marked n [] above = refl
none_marked n (store ∷ stores) above =
    let P : Queued → Type 0 = λ s. n < s.number in
    let up = All-head P store stores above in
    let other : (store.number == n) ≡ false = ne_eqb store.number n (λ same. omega (arith, up, same)) in
    let rest = none_marked n stores (All-tail P store stores above) in
    rw other (ap (λ others. store ∷ others) rest)

pub marks_store : (slots : List Slot) (place : ℕ) (slot : Slot) → IsConsecutive slots → slice_get slots place ≡ Some slot → is_store slot ≡ true
    → marked slot.number (stores_in slots) ≡ stores_in (slice_set slots place (record slot { state = Done }))
marks_store [] place slot consecutive here does = absurd cc
marks_store (first ∷ slots) zero slot consecutive here does =
    let same = same_first first slot here in
    let up : All (λ (store : Queued). slot.number < store.number) (stores_in slots) =
    stores_hold (λ n. slot.number < n) slots (subst (λ (s : Slot). All (λ (other : Slot). s.number < other.number) slots) same (later first slots consecutive))
    in
    let own = eq-eqb slot.number slot.number refl in
    let now : marked slot.number (queued_as slot ∷ stores_in slots) ≡ queued_as (record slot { state = Done }) ∷ stores_in slots =
    λ i. (let one : done_if slot.number (queued_as slot) ≡ queued_as (record slot { state = Done }) = rw own refl in one i) ∷ none_marked slot.number (stores_in slots) up i
    in
    ap (marked slot.number) (leave_store (first ∷ slots) slot here does) ∙ now ∙ sym (leave_store (record slot { state = Done } ∷ slots) (record slot { state = Done }) refl does)
marks_store (first ∷ slots) (suc place) slot consecutive here does =
    let behind = marks_store slots place slot (rest_follows first slots consecutive) here does in
    let before = later_at first slots place slot consecutive here in
    let other : (first.number == slot.number) ≡ false = ne_eqb first.number slot.number (λ same. omega (arith, before, same)) in
    elim (cases_Bool (is_store first)) [
      | inl store ↦
          ap (marked slot.number) (leave_store (first ∷ slots) first refl store) ∙ (rw other (ap (λ rest. queued_as first ∷ rest) behind))
          ∙ sym (leave_store (first ∷ slice_set slots place (record slot { state = Done })) first refl store)
      | inr none ↦
          ap (marked slot.number) (leave_other (first ∷ slots) first refl none) ∙ behind
          ∙ sym (leave_other (first ∷ slice_set slots place (record slot { state = Done })) first refl none)
    ]

-- a slot that is done now, in the queue
pub finishes : (slots : List Slot) (place : ℕ) (slot : Slot) → IsConsecutive slots → slice_get slots place ≡ Some slot
    → finished_in slot (stores_in slots) ≡ stores_in (slice_set slots place (record slot { state = Done }))
finishes slots place slot consecutive here = elim (cases_Bool (is_store slot)) [
  | inl does ↦ rw does (marks_store slots place slot consecutive here does)
  | inr lacks ↦ rw lacks (sym (set_other slots place slot (record slot { state = Done }) here lacks lacks))
]

-- those below the number of a slot are those in front of it
none_below : (n : ℕ) (stores : List Queued) → All (λ store. n ≤ store.number) stores → queue.below_number n stores ≡ []
none_below n [] from = refl
none_below n (store ∷ stores) from =
    let P : Queued → Type 0 = λ s. n ≤ s.number in
    let up = All-head P store stores from in
    let other : nat_lt store.number n ≡ false = le-ltb store.number n up in
    rw other (none_below n stores (All-tail P store stores from))

pub stores_cut : (slots : List Slot) (place : ℕ) (slot : Slot) → IsConsecutive slots → slice_get slots place ≡ Some slot
    → queue.below_number slot.number (stores_in slots) ≡ stores_in (take place slots)
stores_cut [] place slot consecutive here = absurd cc
stores_cut (first ∷ slots) zero slot consecutive here =
    let number = ap (λ (s : Slot). s.number) (same_first first slot here) in
    let above : All (λ (store : Queued). first.number ≤ store.number) (stores_in (first ∷ slots)) = stores_hold (λ n. first.number ≤ n) (first ∷ slots) (from_here first slots consecutive) in
    rw (← number) (none_below first.number (stores_in (first ∷ slots)) above)
stores_cut (first ∷ slots) (suc place) slot consecutive here =
    let behind = stores_cut slots place slot (rest_follows first slots consecutive) here in
    let below : nat_lt first.number slot.number ≡ true = lt-ltb first.number slot.number (later_at first slots place slot consecutive here) in
    elim (cases_Bool (is_store first)) [
      | inl store ↦
          ap (queue.below_number slot.number) (leave_store (first ∷ slots) first refl store) ∙ (rw below (ap (λ rest. queued_as first ∷ rest) behind))
          ∙ sym (leave_store (first ∷ take place slots) first refl store)
      | inr none ↦
          ap (queue.below_number slot.number) (leave_other (first ∷ slots) first refl none) ∙ behind
          ∙ sym (leave_other (first ∷ take place slots) first refl none)
    ]

-- and so it is of the window's slots
window_none_below : (n : ℕ) (slots : List Slot) → All (λ slot. n ≤ slot.number) slots → below_number n slots ≡ []
window_none_below n [] from = refl
window_none_below n (slot ∷ slots) from =
    let P : Slot → Type 0 = λ s. n ≤ s.number in
    let other : nat_lt slot.number n ≡ false = le-ltb slot.number n (All-head P slot slots from) in
    rw other (window_none_below n slots (All-tail P slot slots from))

pub window_cut : (slots : List Slot) (place : ℕ) (slot : Slot) → IsConsecutive slots → slice_get slots place ≡ Some slot → below_number slot.number slots ≡ take place slots
window_cut [] place slot consecutive here = absurd cc
window_cut (first ∷ slots) zero slot consecutive here =
    let number = ap (λ (s : Slot). s.number) (same_first first slot here) in
    subst (λ n. below_number n (first ∷ slots) ≡ []) number (window_none_below first.number (first ∷ slots) (from_here first slots consecutive))
window_cut (first ∷ slots) (suc place) slot consecutive here =
    let behind = window_cut slots place slot (rest_follows first slots consecutive) here in
    let below : nat_lt first.number slot.number ≡ true = lt-ltb first.number slot.number (later_at first slots place slot consecutive here) in
    rw below (ap (λ rest. first ∷ rest) behind)

pub window_count : (slots : List Slot) (place : ℕ) (slot : Slot) → IsConsecutive slots → slice_get slots place ≡ Some slot → count_from slot.number slots ≡ length slots - place
window_count slots place slot consecutive here =
    let front = ap length (window_cut slots place slot consecutive here) ∙ length-take place slots in
    omega (arith, front, count_others slot.number slots, slice_get_within slots place slot here)
