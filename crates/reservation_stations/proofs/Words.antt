-- Four words as a set: one replaced, those of another set cleared, and 64 bits from one on.
use Rattle.std.proofs.Common.{◌≡◌, ◌≢◌, ℕ, ◌+◌, ◌-◌, ◌*◌, ◌/◌, ◌%◌, ◌^◌, ◌<◌, ◌≤◌, ◌==◌, ◌&&◌, ◌||◌, not, Bool, false, List, length, get_or, inl, inr, ◌⊎◌, [], ◌∷◌, arith, eq-eqb, ap, sym, ◌∙◌}
use Rattle.std.specs.Prelude.{slice_set, bit_or, bit_and}
use Rattle.std.specs.Int.{bit_at}
use Rattle.std.proofs.lemmas.Bool.{cases_eq, cases_lt, ne_eqb}
use Rattle.std.proofs.Math.Nat.{add-zero, mul_assoc}
use Rattle.std.proofs.lemmas.List.{get_or-set_same, get_or-set_other, get_or_past}
use Rattle.std.proofs.lemmas.Nat.{shr-shr, shr_split, pow-add, mul-mod_first, pow_pos}
use Rattle.std.proofs.lemmas.Nat.Bits.{bit_at-zero, bit_at_or, bit_at_above, bit_at_cat_low, bit_at_cat_high}
use Rattle.reservation_stations.specs.declared.turn_set.TurnBit.{TurnBit}
use Rattle.reservation_stations.specs.TurnSet.{IsBitOf}
use Rattle.reservation_stations.proofs.Bits.{false_or, and_not_false, is_one, bit_with, bit_without, bit_out, bit_both}

-- whether a turn is in the set
abbrev pub is_set : List ℕ → ℕ → Bool
is_set words turn = is_one (get_or words (turn / 64) 0) (turn % 64)

-- one word replaced: the bits in it, and those of the other words
replaced : (words : List ℕ) (turn word : ℕ) (after : ℕ → Bool) → turn < 256 → length words ≡ 4 →
    ((other : ℕ) → other / 64 ≡ turn / 64 → is_one word (other % 64) ≡ after other) →
    ((other : ℕ) → other / 64 ≢ turn / 64 → is_set words other ≡ after other) →
    (other : ℕ) → is_set (slice_set words (turn / 64) word) other ≡ after other
replaced words turn word after within four inside outside other = elim (cases_eq (other / 64) (turn / 64)) [
  | inl same ↦
      let found : get_or (slice_set words (turn / 64) word) (other / 64) 0 ≡ word = rw same (get_or-set_same words (turn / 64) word 0 (omega arith)) in
      ap (λ n. is_one n (other % 64)) found ∙ inside other same
  | inr apart ↦ ap (λ n. is_one n (other % 64)) (get_or-set_other words (turn / 64) (other / 64) word 0 apart) ∙ outside other apart
]

same_turn : (turn other : ℕ) → other / 64 ≡ turn / 64 → (other % 64 == turn % 64) ≡ (other == turn)
same_turn turn other same = elim (cases_eq other turn) [
  | inl is ↦ eq-eqb (other % 64) (turn % 64) (omega arith) ∙ sym (eq-eqb other turn is)
  | inr differ ↦ ne_eqb (other % 64) (turn % 64) (λ e. differ (omega arith)) ∙ sym (ne_eqb other turn differ)
]

other_turn : (turn other : ℕ) → other / 64 ≢ turn / 64 → (other == turn) ≡ false
other_turn turn other apart = ne_eqb other turn (λ e. apart (ap (λ n. n / 64) e))

module _ (words : List ℕ) (turn : ℕ) (at : TurnBit) (is : IsBitOf turn at) (few : at.word < 4) (four : length words ≡ 4) where
  within : turn < 256
  within = omega (arith, is.word, few)

  pub is_set-with : (other : ℕ) → is_set (slice_set words at.word (bit_or (get_or words at.word 0) at.bit)) other ≡ (is_set words other || (other == turn))
  is_set-with other = rw (is.word, is.bit)
      (replaced words turn _ (λ other. is_set words other || (other == turn)) within four
      (λ other same. bit_with (get_or words (turn / 64) 0) (turn % 64) (other % 64) (omega arith)
      ∙ ap (λ k. is_one (get_or words k 0) (other % 64) || (other % 64 == turn % 64)) (sym same)
      ∙ ap (λ b. is_set words other || b) (same_turn turn other same))
      (λ other apart. false_or (is_set words other) (other == turn) (other_turn turn other apart))
      other)

  pub is_set-without : get_or words (turn / 64) 0 < 2 ^ 64 → (other : ℕ) →
      is_set (slice_set words at.word (bit_and (get_or words at.word 0) (18446744073709551615 - at.bit))) other ≡ (is_set words other && not (other == turn))
  is_set-without fits other = rw (is.word, is.bit)
      (replaced words turn _ (λ other. is_set words other && not (other == turn)) within four
      (λ other same. bit_without (get_or words (turn / 64) 0) (turn % 64) (other % 64) fits (omega arith)
      ∙ ap (λ k. is_one (get_or words k 0) (other % 64) && not (other % 64 == turn % 64)) (sym same)
      ∙ ap (λ b. is_set words other && not b) (same_turn turn other same))
      (λ other apart. and_not_false (is_set words other) (other == turn) (other_turn turn other apart))
      other)

below_four : (k : ℕ) → k < 4 → (k ≡ 0) ⊎ ((k ≡ 1) ⊎ ((k ≡ 2) ⊎ (k ≡ 3)))
below_four k within = grind arith

abbrev cleared : ℕ → ℕ → ℕ
cleared word other = bit_and word (18446744073709551615 - other)

-- the words of a set without those of another
abbrev pub without_all : List ℕ → List ℕ → List ℕ
without_all words others =
    cleared (get_or words 0 0) (get_or others 0 0) ∷ cleared (get_or words 1 0) (get_or others 1 0) ∷ cleared (get_or words 2 0) (get_or others 2 0) ∷ cleared (get_or words 3 0) (get_or others 3 0) ∷ []

word_without : (words others : List ℕ) (k : ℕ) → length words ≡ 4 → get_or (without_all words others) k 0 ≡ cleared (get_or words k 0) (get_or others k 0)
word_without words others k four = elim (cases_lt k 4) [
  | inl few ↦ elim (below_four k few) [
    | inl is ↦ rw is
    | inr later ↦ elim later [
      | inl is ↦ rw is
      | inr last_two ↦ elim last_two [ inl is ↦ rw is | inr is ↦ rw is ]
    ]
  ]
  | inr many ↦
      get_or_past (without_all words others) k 0 many ∙ sym (ap (λ n. cleared n (get_or others k 0)) (get_or_past words k 0 (omega arith)))
]

pub is_set-out : (words others : List ℕ) → length words ≡ 4 → ((k : ℕ) → get_or others k 0 < 2 ^ 64) →
    (turn : ℕ) → is_set (without_all words others) turn ≡ (is_set words turn && not (is_set others turn))
is_set-out words others four fits turn =
    ap (λ n. is_one n (turn % 64)) (word_without words others (turn / 64) four)
    ∙ bit_out (get_or words (turn / 64) 0) (get_or others (turn / 64) 0) (turn % 64) (fits (turn / 64)) (omega arith)

-- the words of a set with those of another
abbrev pub with_both : List ℕ → List ℕ → List ℕ
with_both words others =
    bit_and (get_or words 0 0) (get_or others 0 0) ∷ bit_and (get_or words 1 0) (get_or others 1 0) ∷ bit_and (get_or words 2 0) (get_or others 2 0) ∷ bit_and (get_or words 3 0) (get_or others 3 0) ∷ []

word_both : (words others : List ℕ) (k : ℕ) → length words ≡ 4 → length others ≡ 4 → get_or (with_both words others) k 0 ≡ bit_and (get_or words k 0) (get_or others k 0)
word_both words others k four four_too = elim (cases_lt k 4) [
  | inl few ↦ elim (below_four k few) [
    | inl is ↦ rw is
    | inr later ↦ elim later [
      | inl is ↦ rw is
      | inr last_two ↦ elim last_two [ inl is ↦ rw is | inr is ↦ rw is ]
    ]
  ]
  | inr many ↦
      get_or_past (with_both words others) k 0 many
      ∙ sym (λ i. bit_and (get_or_past words k 0 (omega (arith, many, four)) i) (get_or_past others k 0 (omega (arith, many, four_too)) i))
]

pub is_set-both : (words others : List ℕ) → length words ≡ 4 → length others ≡ 4 →
    (turn : ℕ) → is_set (with_both words others) turn ≡ (is_set words turn && is_set others turn)
is_set-both words others four four_too turn =
    ap (λ n. is_one n (turn % 64)) (word_both words others (turn / 64) four four_too)
    ∙ bit_both (get_or words (turn / 64) 0) (get_or others (turn / 64) 0) (turn % 64)

-- ---- the upper bits of a word, and above them the lower ones of the next
bit_at_mod : (n k : ℕ) → k < 64 → bit_at (n % 18446744073709551616) k ≡ bit_at n k
bit_at_mod n k low = sym (bit_at_cat_low (n / 2 ^ 64) 64 (n % 2 ^ 64) k low) ∙ ap (λ m. bit_at m k) (shr_split n 64)

abbrev raised : ℕ → ℕ → ℕ
raised next from = next * 2 % 18446744073709551616 * 2 ^ (63 - from) % 18446744073709551616

raised_bit : (next from k : ℕ) → from < 64 → k < 64 → bit_at (raised next from) k ≡ bit_at (next * 2 ^ (64 - from)) k
raised_bit next from k within low =
    let power : 2 * 2 ^ (63 - from) ≡ 2 ^ (64 - from) =
    let e : 64 - from ≡ 1 + (63 - from) = omega arith in
    sym (ap (λ i. 2 ^ i) e ∙ pow-add 2 1 (63 - from))
    in
    let whole : next * 2 * 2 ^ (63 - from) ≡ next * 2 ^ (64 - from) = mul_assoc next 2 (2 ^ (63 - from)) ∙ ap (λ n. next * n) power in
    ap (λ n. bit_at n k) (mul-mod_first (next * 2) (2 ^ (63 - from)) 18446744073709551616)
    ∙ bit_at_mod (next * 2 * 2 ^ (63 - from)) k low ∙ ap (λ n. bit_at n k) whole

lowered_bit : (word from k : ℕ) → bit_at (word / 2 ^ from) k ≡ bit_at word (k + from)
lowered_bit word from k =
    let e : from + k ≡ k + from = omega arith in
    ap (λ n. n % 2) (shr-shr word from k) ∙ ap (bit_at word) e

abbrev pub joined_words : ℕ → ℕ → ℕ → ℕ
joined_words word next from = bit_or (word / 2 ^ from) (raised next from)

pub bit_of_word : (word next from k : ℕ) → from < 64 → k + from < 64 → bit_at (joined_words word next from) k ≡ bit_at word (k + from)
bit_of_word word next from k within low =
    let none : bit_at (raised next from) k ≡ 0 =
    raised_bit next from k within (omega arith) ∙ sym (ap (λ n. bit_at n k) (add-zero (next * 2 ^ (64 - from))))
    ∙ bit_at_cat_low next (64 - from) 0 k (omega arith) ∙ bit_at-zero k
    in
    omega (arith, none, bit_at_or (word / 2 ^ from) (raised next from) k, lowered_bit word from k)

pub bit_of_next : (word next from k : ℕ) → word < 2 ^ 64 → from < 64 → k < 64 → 64 ≤ k + from → bit_at (joined_words word next from) k ≡ bit_at next (k + from - 64)
bit_of_next word next from k fits within low high =
    let none : bit_at word (k + from) ≡ 0 = bit_at_above word 64 (k + from) fits high in
    let e : k - (64 - from) ≡ k + from - 64 = omega arith in
    let some : bit_at (raised next from) k ≡ bit_at next (k + from - 64) =
    raised_bit next from k within low ∙ sym (ap (λ n. bit_at n k) (add-zero (next * 2 ^ (64 - from))))
    ∙ bit_at_cat_high next (64 - from) 0 k (pow_pos (64 - from)) (omega arith) ∙ ap (bit_at next) e
    in
    omega (arith, none, some, bit_at_or (word / 2 ^ from) (raised next from) k, lowered_bit word from k)

-- a bit of the 64 from a turn on
pub turn_in_word : (words : List ℕ) (turn k : ℕ) → turn < 256 → k + turn % 64 < 64 →
    is_one (get_or words (turn / 64) 0) (k + turn % 64) ≡ is_set words ((turn + k) % 256)
turn_in_word words turn k within low =
    let word : turn / 64 ≡ (turn + k) % 256 / 64 = omega arith in
    let bit : k + turn % 64 ≡ (turn + k) % 256 % 64 = omega arith in
    ap (λ w. is_one (get_or words w 0) (k + turn % 64)) word ∙ ap (λ i. is_one (get_or words ((turn + k) % 256 / 64) 0) i) bit

pub turn_in_next : (words : List ℕ) (turn k : ℕ) → turn < 256 → k < 64 → 64 ≤ k + turn % 64 →
    is_one (get_or words ((turn / 64 + 1) % 4) 0) (k + turn % 64 - 64) ≡ is_set words ((turn + k) % 256)
turn_in_next words turn k within few high =
    let word : (turn / 64 + 1) % 4 ≡ (turn + k) % 256 / 64 = omega arith in
    let bit : k + turn % 64 - 64 ≡ (turn + k) % 256 % 64 = omega arith in
    ap (λ w. is_one (get_or words w 0) (k + turn % 64 - 64)) word ∙ ap (λ i. is_one (get_or words ((turn + k) % 256 / 64) 0) i) bit
