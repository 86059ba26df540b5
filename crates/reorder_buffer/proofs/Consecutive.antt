-- Slots whose numbers follow one another: their indices, one slot more, and those below a number.
use Rattle.std.proofs.Common.{◌≡◌, ℕ, zero, suc, ◌+◌, ◌-◌, ◌/◌, ◌%◌, sym, ◌<◌, ◌≤◌, min, nat_lt, nat_le, List, [], ◌∷◌, ◌++◌, length, get_or, take, drop, set, subst, refl, ap, ◌∙◌, arith, Option, Some, None, IfSome, IsNone, ◌↔◌, Bor, ◌⊎◌, slice_get, All, inl, inr, length-append, length-take, length-set, get_or-take, get_or-set_same, get_or-set_other}
use Rattle.std.proofs.Math.Nat.{div-add-mod, mul-le-mul_left, mul-suc, mod-add-mod}
use Rattle.std.proofs.lemmas.Bool.{cases_lt, cases_eq}
use Rattle.std.proofs.lemmas.List.{get_or_append_left, get_or_push, take_min}
use Rattle.std.proofs.lemmas.List.Filters.{length-filter_both}
use Rattle.std.proofs.lemmas.List.Sums.{length-filter}
use Rattle.std.proofs.lemmas.Option.{slice_get-get_or, slice_get_within, get_or_from_slice_get}
use Rattle.std.specs.Option.{option_copied}
use Rattle.reorder_buffer.specs.declared.slot.Slot.{Slot}
use Rattle.reorder_buffer.specs.Window.{IsConsecutive, IsFirst, HasOwnIndices, youngest, index_of, position_of, below_number, count_from}

-- k places on, the number is k higher
number_on : (slots : List Slot) → IsConsecutive slots → (i k : ℕ) (d : Slot) → i + k < length slots → (get_or slots (i + k) d).number ≡ (get_or slots i d).number + k
number_on slots consecutive i zero d within = let e : i + 0 ≡ i = omega arith in rw e (omega arith)
number_on slots consecutive i (suc k) d within =
    let e : i + suc k ≡ i + k + 1 = omega arith in
    let before = number_on slots consecutive i k d (omega arith) in
    rw e (omega (arith, before, consecutive (i + k) d (omega arith)))

-- fewer than `capacity` numbers on, the index is another one
other_index : (capacity n k : ℕ) → 0 < k → k < capacity → index_of capacity n ≡ index_of capacity (n + k) → ⊥
other_index capacity n k some within same =
    let here = div-add-mod n capacity in
    let there = div-add-mod (n + k) capacity in
    elim (cases_lt (n / capacity) ((n + k) / capacity)) [
      | inl more ↦ omega (arith, here, there, mul-le-mul_left {m = suc (n / capacity)} {n = (n + k) / capacity} capacity (omega arith), mul-suc capacity (n / capacity))
      | inr less ↦ omega (arith, here, there, mul-le-mul_left {m = (n + k) / capacity} {n = n / capacity} capacity less)
    ]

-- as many slots as there are indices
pub own_indices : (capacity : ℕ) (slots : List Slot) → IsConsecutive slots → length slots ≤ capacity → HasOwnIndices capacity slots
own_indices capacity slots consecutive within = λ i j d before inside same.
    let e : i + (j - i) ≡ j = omega arith in
    let on = rw e at (number_on slots consecutive i (j - i) d (omega arith)) in
    other_index capacity (get_or slots i d).number (j - i) (omega arith) (omega arith) (rw (← on) same)

-- a slot with the next number
pub one_more : (slots : List Slot) (s : Slot) → IsConsecutive slots → IfSome (youngest slots) (λ last. s.number ≡ last.number + 1) → IsConsecutive (slots ++ s ∷ [])
one_more slots s consecutive next = λ k d within.
    let long = length-append slots (s ∷ []) in
    elim (cases_lt (k + 1) (length slots)) [
      | inl earlier ↦ rw (get_or_append_left slots (s ∷ []) d k (omega arith), get_or_append_left slots (s ∷ []) d (k + 1) earlier) (consecutive k d earlier)
      | inr last ↦
          let e : length slots - 1 ≡ k = omega (arith, long) in
          let newest : youngest slots ≡ Some (get_or slots k d) = rw e (slice_get-get_or slots k d (omega (arith, long))) in
          rw (get_or_append_left slots (s ∷ []) d k (omega (arith, long)), get_or_push slots s d (k + 1) (omega (arith, long))) (rw newest at next)
    ]

-- it has an index that none of them has
pub free_index : (capacity : ℕ) (slots : List Slot) (s : Slot) → IsConsecutive slots → IfSome (youngest slots) (λ last. s.number ≡ last.number + 1) → length slots < capacity
    → All (λ held. index_of capacity held.number ≡ index_of capacity s.number → ⊥) slots
free_index capacity slots s consecutive next room = λ k d within same.
    let long = length-append slots (s ∷ []) in
    let own = own_indices capacity (slots ++ s ∷ []) (one_more slots s consecutive next) (omega (arith, long)) k (length slots) d within (omega (arith, long)) in
    own (rw (get_or_append_left slots (s ∷ []) d k within, get_or_push slots s d (length slots) refl) same)

-- the next number has an index, and so a position, that none of them has
pub free_number : (capacity number : ℕ) (slots : List Slot) → IsConsecutive slots → IfSome (youngest slots) (λ last. number ≡ last.number + 1) → length slots < capacity
    → All (λ held. index_of capacity held.number ≡ index_of capacity number → ⊥) slots
free_number capacity number slots consecutive next room = λ k d within same.
    let s : Slot = record d { number = number } in
    free_index capacity slots s consecutive next room k d within same

-- the slots behind the oldest follow one another too
rest_follows : (s : Slot) (slots : List Slot) → IsConsecutive (s ∷ slots) → IsConsecutive slots
rest_follows s slots consecutive = λ k d within. let e : suc k + 1 ≡ suc (k + 1) = omega arith in rw e at (consecutive (suc k) d (omega arith))

-- nothing is the front of nothing
take-nil : (n : ℕ) → ◌≡◌ {A = List Slot} (take n []) []
take-nil zero = refl
take-nil (suc n) = refl

-- those below a number stand first
below_first : (n : ℕ) (s : Slot) (slots : List Slot) → IsConsecutive (s ∷ slots) → below_number n (s ∷ slots) ≡ take (n - s.number) (s ∷ slots)
below_first n s [] consecutive = elim (cases_lt s.number n) [
  | inl below ↦ let e : n - s.number ≡ suc (n - s.number - 1) = omega arith in rw e (grind (arith, take-nil))
  | inr above ↦ let e : n - s.number ≡ 0 = omega arith in rw e (grind arith)
]
below_first n s (t ∷ slots) consecutive =
    let next : t.number ≡ s.number + 1 = consecutive 0 s (omega arith) in
    let rest = below_first n t slots (rest_follows s (t ∷ slots) consecutive) in
    elim (cases_lt s.number n) [
      | inl below ↦ let e : n - s.number ≡ suc (n - t.number) = omega arith in rw e (grind (arith, rest))
      | inr above ↦ let e : n - s.number ≡ 0 = omega arith in let e' : n - t.number ≡ 0 = omega arith in rw e (grind (arith, rw e' at rest))
    ]

-- as many as there are
pub take_below : (n : ℕ) (slots : List Slot) → IsConsecutive slots → take (length (below_number n slots)) slots ≡ below_number n slots
take_below n [] consecutive = refl
take_below n (s ∷ slots) consecutive =
    let first = below_first n s slots consecutive in
    rw (first, length-take (n - s.number) (s ∷ slots), take_min (n - s.number) (s ∷ slots)) refl

-- they are as many as the number is above the oldest one's
pub below_is_min : (n : ℕ) (s : Slot) (slots : List Slot) → slice_get slots 0 ≡ Some s → IsConsecutive slots → length (below_number n slots) ≡ min (n - s.number) (length slots)
below_is_min n s [] oldest consecutive = grind arith
below_is_min n s (t ∷ slots) oldest consecutive =
    let same : t ≡ s = grind (arith, oldest) in
    rw (← same) (ap length (below_first n t slots consecutive) ∙ length-take (n - t.number) (t ∷ slots))

-- the others
pub count_others : (n : ℕ) (slots : List Slot) → length slots - length (below_number n slots) ≡ count_from n slots
count_others n slots =
    let both = length-filter_both (λ (s : Slot). nat_lt s.number n) (λ s. nat_le n s.number) (λ s. grind arith) slots in
    omega (arith, both, length-filter (λ (s : Slot). nat_le n s.number) slots)

-- there is an oldest slot but in an empty window
pub oldest_none : (slots : List Slot) (oldest : Option (Bor Slot)) → option_copied oldest ≡ slice_get slots 0 → IsNone oldest ↔ (slots ≡ [])
oldest_none [] None same = (λ none. refl, λ empty. refl)
oldest_none [] (Some s) same = grind arith
oldest_none (s ∷ slots) None same = grind arith
oldest_none (s ∷ slots) (Some t) same = (λ none. grind arith, λ empty. grind arith)

-- the number of a slot is that of the oldest and its place
pub number_at : (slots : List Slot) (place : ℕ) (oldest slot : Slot) → IsConsecutive slots → slice_get slots 0 ≡ Some oldest → slice_get slots place ≡ Some slot → slot.number ≡ oldest.number + place
number_at slots place oldest slot consecutive first there =
    let within : place < length slots = slice_get_within slots place slot there in
    let mine : get_or slots place slot ≡ slot = get_or_from_slice_get slots place slot slot there in
    let theirs : get_or slots 0 slot ≡ oldest = get_or_from_slice_get slots 0 oldest slot first in
    let on : (get_or slots place slot).number ≡ (get_or slots 0 slot).number + place = let e : 0 + place ≡ place = omega arith in rw e at (number_on slots consecutive 0 place slot (omega (arith, within))) in
    sym (ap (λ (s : Slot). s.number) mine) ∙ on ∙ ap (λ (s : Slot). s.number + place) theirs

-- What is behind the remainder of a number: the position of the next slot, and that of the oldest but one.
behind : (room first places number : ℕ) → first ≡ position_of room number → position_of room (first + places) ≡ position_of room (number + places)
behind room first places number is = ap (λ k. (k + places) % room) is ∙ mod-add-mod number room places

-- the position of the oldest slot once there is one of this number behind the others
abbrev pub IsFirstWith : List Slot → ℕ → ℕ → ℕ → ℕ → Type 0
IsFirstWith slots room first number now = ((length slots ≡ 0) × (now ≡ position_of room number)) ⊎ ((1 ≤ length slots) × (now ≡ first))

module _ (room first : ℕ) where
  pub next_position : (slots : List Slot) (number now : ℕ) → IsConsecutive slots → IsFirst slots room first → IfSome (youngest slots) (λ last. number ≡ last.number + 1) →
      IsFirstWith slots room first number now → position_of room (now + length slots) ≡ position_of room number
  next_position [] number now consecutive is next (inl empty) = let e : number + 0 ≡ number = omega arith in behind room now 0 number empty.1 ∙ ap (position_of room) e
  next_position [] number now consecutive is next (inr some) = absurd (let least = some.0 in omega arith)
  next_position (s ∷ slots) number now consecutive is next (inl empty) = absurd (let none = empty.0 in omega arith)
  next_position (s ∷ slots) number now consecutive is next (inr some) =
      let last = get_or (s ∷ slots) (length slots) s in
      let newest : slice_get (s ∷ slots) (length slots) ≡ Some last = slice_get-get_or (s ∷ slots) (length slots) s (omega arith) in
      let at : length (s ∷ slots) - 1 ≡ length slots = omega arith in
      let one : number ≡ last.number + 1 = rw newest at (subst (λ k. IfSome (slice_get (s ∷ slots) k) (λ l. number ≡ l.number + 1)) at next) in
      let on : last.number ≡ s.number + length slots = number_at (s ∷ slots) (length slots) s last consecutive refl newest in
      let e : s.number + length (s ∷ slots) ≡ number = omega (arith, one, on) in
      behind room now (length (s ∷ slots)) s.number (some.1 ∙ is) ∙ ap (position_of room) e

  pub second_position : (slots : List Slot) → IsConsecutive slots → IsFirst slots room first → IsFirst (drop 1 slots) room (position_of room (first + 1))
  second_position [] consecutive is = tt
  second_position (s ∷ []) consecutive is = tt
  second_position (s ∷ t ∷ slots) consecutive is =
      let next : t.number ≡ s.number + 1 = consecutive 0 s (omega arith) in
      behind room first 1 s.number is ∙ ap (position_of room) (sym next)

-- the position of the slot at a place
if_some : {X : Type 0} (P : X → Type 0) (at : Option X) → ((x : X) → at ≡ Some x → P x) → IfSome at P
if_some P None each = tt
if_some P (Some x) each = each x refl

pub place_position : (slots : List Slot) (room first place : ℕ) → IsConsecutive slots → IsFirst slots room first
    → IfSome (slice_get slots place) (λ slot. position_of room (first + place) ≡ position_of room slot.number)
place_position [] room first place consecutive is = tt
place_position (s ∷ slots) room first place consecutive is =
    if_some (λ (slot : Slot). position_of room (first + place) ≡ position_of room slot.number) (slice_get (s ∷ slots) place)
    (λ slot there. behind room first place s.number is ∙ ap (position_of room) (sym (number_at (s ∷ slots) place s slot consecutive refl there)))

pub rest_of : (slots : List Slot) → IsConsecutive slots → IsConsecutive (drop 1 slots)
rest_of [] consecutive = consecutive
rest_of (s ∷ slots) consecutive = rest_follows s slots consecutive

-- the position of the oldest slot behind a further one
pub first_with : (slots : List Slot) (s : Slot) (room first now : ℕ) → IsFirst slots room first → IsFirstWith slots room first s.number now → IsFirst (slots ++ s ∷ []) room now
first_with [] s room first now is (inl empty) = empty.1
first_with [] s room first now is (inr some) = absurd (let least = some.0 in omega arith)
first_with (t ∷ slots) s room first now is (inl empty) = absurd (let none = empty.0 in omega arith)
first_with (t ∷ slots) s room first now is (inr some) = some.1 ∙ is

-- the oldest slot of a part, and slots with other states
pub first_of : (slots : List Slot) (kept room first : ℕ) → IsFirst slots room first → IsFirst (take kept slots) room first
first_of slots zero room first is = tt
first_of [] (suc kept) room first is = tt
first_of (s ∷ slots) (suc kept) room first is = is

pub part_of : (slots : List Slot) (kept : ℕ) → IsConsecutive slots → IsConsecutive (take kept slots)
part_of slots kept consecutive = λ k d within.
    let long = length-take kept slots in
    let e = get_or-take kept slots k d (omega (arith, long, within)) in
    let e' = get_or-take kept slots (k + 1) d (omega (arith, long, within)) in
    rw (e, e') (consecutive k d (omega (arith, long, within)))

module _ (slots : List Slot) (place : ℕ) (s now : Slot) (there : slice_get slots place ≡ Some s) (same : now.number ≡ s.number) where
  same_number : (k : ℕ) (d : Slot) → (get_or (set slots place now) k d).number ≡ (get_or slots k d).number
  same_number k d = elim (cases_eq k place) [
    | inl here ↦
        let within = slice_get_within slots place s there in
        let mine = get_or_from_slice_get slots place s d there in
        rw (here, get_or-set_same slots place now d within, mine) same
    | inr other ↦ ap (λ (x : Slot). x.number) (get_or-set_other slots place k now d other)
  ]

  pub consecutive_still : IsConsecutive slots → IsConsecutive (set slots place now)
  consecutive_still consecutive = λ k d within.
      let long = length-set slots place now in
      same_number (k + 1) d ∙ consecutive k d (omega (arith, long, within)) ∙ ap (λ m. m + 1) (sym (same_number k d))

pub first_still : (slots : List Slot) (place : ℕ) (s now : Slot) (room first : ℕ) → slice_get slots place ≡ Some s → now.number ≡ s.number → IsFirst slots room first → IsFirst (set slots place now) room first
first_still [] place s now room first there same is = tt
first_still (t ∷ slots) zero s now room first there same is = let e : t ≡ s = grind (arith, there) in is ∙ ap (λ (x : Slot). position_of room x.number) e ∙ ap (position_of room) (sym same)
first_still (t ∷ slots) (suc place) s now room first there same is = is
