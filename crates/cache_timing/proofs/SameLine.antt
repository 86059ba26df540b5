-- Two addresses that differ in no bit that numbers lines lie in one line.
use Rattle.std.proofs.Common.{◌≡◌, ◌≢◌, ℕ, ◌/◌, ◌^◌, ◌<◌, ◌==◌, ◌||◌, arith, ◌∙◌, sym, subst, IsTrue}
use Rattle.std.proofs.Math.Nat.{div-eq_of_lt}
use Rattle.std.specs.Int.{is_power_of_two}
use Rattle.std.specs.Int.Bits.{bit_xor, xor_add_and}
use Rattle.std.proofs.lemmas.Nat.{and_le_l, and_le_r, xor_shr}
use Rattle.fsim_base.proofs.Powers.{power_of_two}

same_from_xor : (a b : ℕ) → bit_xor a b ≡ 0 → a ≡ b
same_from_xor a b none = omega (arith, xor_add_and a b, and_le_l a b, and_le_r a b, none)

same_above : (a b bits : ℕ) → bit_xor a b < 2 ^ bits → a / 2 ^ bits ≡ b / 2 ^ bits
same_above a b bits low =
    let none : bit_xor a b / 2 ^ bits ≡ 0 = div-eq_of_lt low in
    same_from_xor (a / 2 ^ bits) (b / 2 ^ bits) (sym (xor_shr a b bits) ∙ none)

pub same_line : (length a b : ℕ) → IsTrue (length == 0 || is_power_of_two length) → bit_xor a b < length → b / length ≡ a / length
same_line length a b power low =
    let some : length ≢ 0 = λ none. absurd (omega (arith, low, none)) in
    let p = power_of_two length (grind (arith, power, some)) in
    let Same : ℕ → Type 0 = λ n. b / n ≡ a / n in
    let Low : ℕ → Type 0 = λ n. bit_xor a b < n in
    subst Same (sym p.1) (sym (same_above a b p.0 (subst Low p.1 low)))
