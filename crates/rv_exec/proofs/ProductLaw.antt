-- MUL gives the lower half of each product of which MULH, MULHSU and MULHU give the upper one.
use Rattle.std.proofs.Common.{◌≡◌, ℕ, ℤ, pos, negsuc, zero, suc, ◌+◌, ◌-◌, ◌*◌, ◌%◌, ◌^◌, ◌<◌, ◌≤◌, ◌*ℤ◌, refl, sym, ap, ◌∙◌, arith}
use Rattle.std.proofs.Math.Nat.{add-mul, mul_comm}
use Rattle.std.specs.Int.{w32, w64, cast_unsigned}
use Rattle.std.proofs.lemmas.Int.{ints, of_z-to_z}
use lib.IntN.{neg_ℤ}
use lib.Signed.{mag}
use Rattle.rv_exec.specs.Signed.{signed_of, word_of}
use Rattle.rv_exec.specs.MulDiv.{upper_half, product_value}
use Rattle.rv_exec.specs.Laws.{AreHalves}

-- the lower half of the bits of -n
low_of_negated : (n : ℕ) → n ≤ 2 ^ 64 → cast_unsigned w64 (neg_ℤ (pos n)) % 2 ^ 32 ≡ (2 ^ 64 - n) % 2 ^ 32
low_of_negated zero h = omega arith
low_of_negated (suc n) h = omega arith

-- where a stands for -x and b for itself, and where both stand for negative numbers
one_negative : (a b x : ℕ) → b < 2 ^ 32 → a + x ≡ 2 ^ 32 → cast_unsigned w64 (neg_ℤ (pos (x * b))) % 2 ^ 32 ≡ a * b % 2 ^ 32
one_negative a b x hb e =
    let parts : a * b + x * b ≡ 2 ^ 32 * b = sym (add-mul a x b) ∙ ap (λ (n : ℕ). n * b) e in
    low_of_negated (x * b) (omega arith) ∙ omega arith

both_negative : (a b x y : ℕ) → a + x ≡ 2 ^ 32 → b + y ≡ 2 ^ 32 → x * y % 2 ^ 32 ≡ a * b % 2 ^ 32
both_negative a b x y ea eb =
    let left : a * b + x * b ≡ 2 ^ 32 * b = sym (add-mul a x b) ∙ ap (λ (n : ℕ). n * b) ea in
    let right : b * x + y * x ≡ 2 ^ 32 * x = sym (add-mul b y x) ∙ ap (λ (n : ℕ). n * x) eb in
    let swapped : b * x ≡ x * b = mul_comm b x in
    let turned : y * x ≡ x * y = mul_comm y x in
    omega arith

low_half : (y z : ℤ) → mag y < 2 ^ 32 → mag z < 2 ^ 32 → cast_unsigned w64 (y *ℤ z) % 2 ^ 32 ≡ word_of y * word_of z % 2 ^ 32
low_half (pos m) (pos n) hy hz = refl
low_half (pos m) (negsuc n) hy hz =
    ap (λ (k : ℕ). cast_unsigned w64 (neg_ℤ (pos k)) % 2 ^ 32) (mul_comm m (suc n))
    ∙ one_negative (2 ^ 32 - suc n) m (suc n) hy (omega arith)
    ∙ ap (λ (k : ℕ). k % 2 ^ 32) (mul_comm (2 ^ 32 - suc n) m)
low_half (negsuc m) (pos n) hy hz = one_negative (2 ^ 32 - suc m) n (suc m) hz (omega arith)
low_half (negsuc m) (negsuc n) hy hz = both_negative (2 ^ 32 - suc m) (2 ^ 32 - suc n) (suc m) (suc n) (omega arith) (omega arith)

halves : (y z : ℤ) → mag y < 2 ^ 32 → mag z < 2 ^ 32 → AreHalves (upper_half (y *ℤ z)) (word_of y * word_of z % 2 ^ 32) (y *ℤ z)
halves y z hy hz = omega (arith, low_half y z hy hz)

signed_fits : (a : ℕ) → a < 2 ^ 32 → mag (signed_of a) < 2 ^ 32
signed_fits a h = grind (arith, ints)

-- the laws of MULH and of MULHSU
pub halves_signed : (a b : ℕ) → a < 2 ^ 32 → b < 2 ^ 32 → AreHalves (product_value 1 a b) (product_value 0 a b) (signed_of a *ℤ signed_of b)
halves_signed a b ha hb =
    let both : AreHalves (upper_half (signed_of a *ℤ signed_of b)) (word_of (signed_of a) * word_of (signed_of b) % 2 ^ 32) (signed_of a *ℤ signed_of b) = halves (signed_of a) (signed_of b) (signed_fits a ha) (signed_fits b hb) in
    rw (of_z-to_z w32 a ha, of_z-to_z w32 b hb) at both

pub halves_mixed : (a b : ℕ) → a < 2 ^ 32 → b < 2 ^ 32 → AreHalves (product_value 2 a b) (product_value 0 a b) (signed_of a *ℤ pos b)
halves_mixed a b ha hb =
    let both : AreHalves (upper_half (signed_of a *ℤ pos b)) (word_of (signed_of a) * b % 2 ^ 32) (signed_of a *ℤ pos b) = halves (signed_of a) (pos b) (signed_fits a ha) hb in
    rw (of_z-to_z w32 a ha) at both
