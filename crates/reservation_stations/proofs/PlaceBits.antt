-- The places of a word whose bit 0 stands for place `from`.
use Rattle.std.proofs.Common.{◌≡◌, ℕ, ◌+◌, ◌-◌, ◌*◌, ◌/◌, ◌%◌, ◌^◌, ◌<◌, ◌≤◌, ◌==◌, ◌&&◌, not, Bool, true, false, w64, inl, inr, arith, ap, refl, sym, ◌∙◌, eq-eqb}
use Rattle.std.specs.Prelude.{bit_and, nat_le}
use Rattle.std.specs.Int.{bit_at, trailing_zeros}
use Rattle.std.proofs.lemmas.Bool.{cases_eq, cases_lt, ne_eqb, le-leb, lt-leb, and_from, and_right}
use Rattle.std.proofs.lemmas.Nat.Bits.{bit_at-trailing_zeros, bit_at_above, bit_at_lowest}
use Rattle.reservation_stations.proofs.Bits.{is_one, bit_without_shifted}
use Rattle.reservation_stations.proofs.Lowest.{lowest_is, none_behind}

-- whether a place is there
abbrev pub is_there : ℕ → ℕ → ℕ → Bool
is_there from word place = nat_le from place && is_one word (place - from)

there : (from word place : ℕ) → from ≤ place → bit_at word (place - from) ≡ 1 → is_there from word place ≡ true
there from word place behind is = and_from (nat_le from place) (is_one word (place - from)) (le-leb from place behind) (ap (λ n. n == 1) is)

absent : (from word place : ℕ) → (from ≤ place → bit_at word (place - from) ≡ 0) → is_there from word place ≡ false
absent from word place none = elim (cases_lt place from) [
  | inl before ↦ ap (λ b. b && is_one word (place - from)) (lt-leb from place before)
  | inr behind ↦ and_right (nat_le from place) (is_one word (place - from)) (ap (λ n. n == 1) (none behind))
]

-- the place that bit 0 stands for
pub lowest_there : (from word : ℕ) → (word % 2 == 1) ≡ is_there from word from
lowest_there from word = sym (
    ap (λ b. b && is_one word (from - from)) (le-leb from from (omega arith))
    ∙ ap (is_one word) (let e : from - from ≡ 0 = omega arith in e)
    ∙ ap (λ n. n == 1) (bit_at_lowest word)
    )

pub record IsFirst (from word at place : ℕ) : Type 0 where
  pub found : is_there from word place ≡ true
  pub first : (k : ℕ) → at ≤ k → k < place → is_there from word k ≡ false

-- `start` and `skipped` are what the code computes `from` and `at - from` as
module _ (from word at start skipped : ℕ) (begins : start ≡ from) (skips : skipped ≡ at - from) where
  pub first_is : word < 2 ^ 64 → 0 < word / 2 ^ skipped → IsFirst from word at (start + skipped + trailing_zeros w64 (word / 2 ^ skipped))
  first_is fits some =
      let zeros = trailing_zeros w64 (word / 2 ^ skipped) in
      let is = lowest_is word skipped fits some in
      let e : start + skipped + zeros - from ≡ skipped + zeros = omega (arith, begins) in
      record {
        found = there from word (start + skipped + zeros) (omega (arith, begins)) (ap (bit_at word) e ∙ is.found);
        first = λ k late before. absent from word k (λ behind. is.first (k - from) (omega (arith, late, skips)) (omega (arith, before, behind, begins)));
      }

  pub none_from : word / 2 ^ skipped ≡ 0 → (k : ℕ) → at ≤ k → is_there from word k ≡ false
  none_from none k late = absent from word k (λ behind. none_behind word skipped none (k - from) (omega (arith, late, skips)))

  pub none_past : word < 2 ^ 64 → 64 ≤ skipped → (k : ℕ) → at ≤ k → is_there from word k ≡ false
  none_past fits past k late = absent from word k (λ behind. bit_at_above word 64 (k - from) fits (omega (arith, past, late, skips)))

pub record IsTaken (from word place : ℕ) : Type 0 where
  pub found : is_there from word place ≡ true
  pub first : (k : ℕ) → k < place → is_there from word k ≡ false
  pub removed : (k : ℕ) → is_there from (bit_and word (18446744073709551615 - 1 * 2 ^ trailing_zeros w64 word % 18446744073709551616)) k
      ≡ (is_there from word k && not (k == place))

and_assoc_not : (a b c : Bool) → (a && (b && c)) ≡ ((a && b) && c)
and_assoc_not true b c = refl
and_assoc_not false b c = refl

same_place : (from bit k : ℕ) → from ≤ k → (k - from == bit) ≡ (k == from + bit)
same_place from bit k behind = elim (cases_eq k (from + bit)) [
  | inl is ↦ eq-eqb (k - from) bit (omega (arith, is)) ∙ sym (eq-eqb k (from + bit) is)
  | inr differ ↦ ne_eqb (k - from) bit (λ e. differ (omega (arith, e, behind))) ∙ sym (ne_eqb k (from + bit) differ)
]

place_without : (from word bit k : ℕ) → word < 2 ^ 64 → bit < 64 →
    is_there from (bit_and word (18446744073709551615 - 1 * 2 ^ bit % 18446744073709551616)) k ≡ (is_there from word k && not (k == from + bit))
place_without from word bit k fits within = elim (cases_lt k from) [
  | inl before ↦
      ap (λ b. b && is_one (bit_and word (18446744073709551615 - 1 * 2 ^ bit % 18446744073709551616)) (k - from)) (lt-leb from k before)
      ∙ sym (ap (λ b. (b && is_one word (k - from)) && not (k == from + bit)) (lt-leb from k before))
  | inr behind ↦
      ap (λ b. nat_le from k && b) (bit_without_shifted word bit (k - from) fits within ∙ ap (λ b. is_one word (k - from) && not b) (same_place from bit k behind))
      ∙ and_assoc_not (nat_le from k) (is_one word (k - from)) (not (k == from + bit))
]

pub taken_is : (from word start : ℕ) → start ≡ from → word < 2 ^ 64 → 0 < word → IsTaken from word (start + trailing_zeros w64 word)
taken_is from word start begins fits some =
    let is = bit_at-trailing_zeros w64 word some fits in
    let bit = trailing_zeros w64 word in
    let e : start + bit - from ≡ bit = omega (arith, begins) in
    record {
      found = there from word (start + bit) (omega (arith, begins)) (ap (bit_at word) e ∙ is.1);
      first = λ k before. absent from word k (λ behind. is.2 (k - from) (omega (arith, before, behind, begins)));
      removed = λ k. place_without from word bit k fits is.0 ∙ ap (λ n. is_there from word k && not (k == n + bit)) (sym begins);
    }
