-- One bit of a word: set, cleared, and those of another word cleared.
use Rattle.std.proofs.Common.{◌≡◌, ℕ, ◌-◌, ◌*◌, ◌%◌, ◌^◌, min, ◌<◌, ◌==◌, ◌&&◌, ◌||◌, not, Bool, true, false, w64, inl, inr, ◌⊎◌, arith, ap, refl, sym, ◌∙◌, eq-eqb}
use Rattle.std.specs.Prelude.{bit_or, bit_and}
use Rattle.std.specs.Int.{bit_at}
use Rattle.std.proofs.lemmas.Nat.{one_shl}
use Rattle.std.proofs.lemmas.Bool.{cases_eq, cases_lt, ne_eqb}
use Rattle.std.proofs.lemmas.Nat.Bits.{bit_at_set_same, bit_at_set_other, bit_at_clear_same, bit_at_clear_other, bit_at_and, bit_at_not, bit_at_above, bit_at-lt}

pub false_or : (b c : Bool) → c ≡ false → b ≡ (b || c)
false_or true c is = refl
false_or false c is = sym is

or_true : (b c : Bool) → c ≡ true → true ≡ (b || c)
or_true true c is = refl
or_true false c is = sym is

and_not_true : (b c : Bool) → c ≡ true → false ≡ (b && not c)
and_not_true true c is = grind arith
and_not_true false c is = refl

pub and_not_false : (b c : Bool) → c ≡ false → b ≡ (b && not c)
and_not_false true c is = grind arith
and_not_false false c is = refl

-- bit i is set
abbrev pub is_one : ℕ → ℕ → Bool
is_one word i = bit_at word i == 1

-- the word of a bit alone stands as a shift leaves it, or as a power of two
bit_with_shifted : (word bit i : ℕ) → bit < 64 → is_one (bit_or word (1 * 2 ^ bit % 18446744073709551616)) i ≡ (is_one word i || (i == bit))
bit_with_shifted word bit i within = elim (cases_eq i bit) [
  | inl same ↦
      ap (is_one (bit_or word (1 * 2 ^ bit % 18446744073709551616))) same ∙ ap (λ n. n == 1) (bit_at_set_same w64 word bit within)
      ∙ or_true (is_one word i) (i == bit) (eq-eqb i bit same)
  | inr differ ↦ ap (λ n. n == 1) (bit_at_set_other w64 word bit within i differ) ∙ false_or (is_one word i) (i == bit) (ne_eqb i bit differ)
]

pub bit_with : (word bit i : ℕ) → bit < 64 → is_one (bit_or word (2 ^ bit)) i ≡ (is_one word i || (i == bit))
bit_with word bit i within = ap (λ n. is_one (bit_or word n) i) (sym (one_shl bit 64 within)) ∙ bit_with_shifted word bit i within

pub bit_without_shifted : (word bit i : ℕ) → word < 2 ^ 64 → bit < 64 → is_one (bit_and word (18446744073709551615 - 1 * 2 ^ bit % 18446744073709551616)) i ≡ (is_one word i && not (i == bit))
bit_without_shifted word bit i fits within = elim (cases_eq i bit) [
  | inl same ↦
      ap (is_one (bit_and word (18446744073709551615 - 1 * 2 ^ bit % 18446744073709551616))) same ∙ ap (λ n. n == 1) (bit_at_clear_same w64 word bit within)
      ∙ and_not_true (is_one word i) (i == bit) (eq-eqb i bit same)
  | inr differ ↦
      let unchanged : bit_at (bit_and word (18446744073709551615 - 1 * 2 ^ bit % 18446744073709551616)) i ≡ bit_at word i =
      elim (cases_lt i 64) [
        | inl low ↦ bit_at_clear_other w64 word bit within i low differ
        | inr high ↦
            let none : bit_at word i ≡ 0 = bit_at_above word 64 i fits high in
            omega (arith, none, bit_at_and word (18446744073709551615 - 1 * 2 ^ bit % 18446744073709551616) i)
      ] in
      ap (λ n. n == 1) unchanged ∙ and_not_false (is_one word i) (i == bit) (ne_eqb i bit differ)
]

pub bit_without : (word bit i : ℕ) → word < 2 ^ 64 → bit < 64 → is_one (bit_and word (18446744073709551615 - 2 ^ bit)) i ≡ (is_one word i && not (i == bit))
bit_without word bit i fits within =
    ap (λ n. is_one (bit_and word (18446744073709551615 - n)) i) (sym (one_shl bit 64 within)) ∙ bit_without_shifted word bit i fits within

below_two : (a : ℕ) → a < 2 → (a ≡ 0) ⊎ (a ≡ 1)
below_two a within = grind arith

least_one : (a b : ℕ) → a < 2 → b < 2 → (min a (1 - b) == 1) ≡ ((a == 1) && not (b == 1))
least_one a b few small = elim (below_two a few) [
  | inl none ↦ elim (below_two b small) [ inl clear ↦ rw (none, clear) | inr set ↦ rw (none, set) ]
  | inr one ↦ elim (below_two b small) [ inl clear ↦ rw (one, clear) | inr set ↦ rw (one, set) ]
]

pub bit_out : (word other i : ℕ) → other < 2 ^ 64 → i < 64 → is_one (bit_and word (18446744073709551615 - other)) i ≡ (is_one word i && not (is_one other i))
bit_out word other i fits low =
    ap (λ n. n == 1) (bit_at_and word (18446744073709551615 - other) i ∙ ap (min (bit_at word i)) (bit_at_not w64 other i fits low))
    ∙ least_one (bit_at word i) (bit_at other i) (bit_at-lt word i) (bit_at-lt other i)

both_one : (a b : ℕ) → a < 2 → b < 2 → (min a b == 1) ≡ ((a == 1) && (b == 1))
both_one a b few small = elim (below_two a few) [
  | inl none ↦ elim (below_two b small) [ inl clear ↦ rw (none, clear) | inr set ↦ rw (none, set) ]
  | inr one ↦ elim (below_two b small) [ inl clear ↦ rw (one, clear) | inr set ↦ rw (one, set) ]
]

pub bit_both : (word other i : ℕ) → is_one (bit_and word other) i ≡ (is_one word i && is_one other i)
bit_both word other i =
    ap (λ n. n == 1) (bit_at_and word other i) ∙ both_one (bit_at word i) (bit_at other i) (bit_at-lt word i) (bit_at-lt other i)
