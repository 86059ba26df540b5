-- DIV and REM satisfy the manual's law of division.
use Rattle.std.proofs.Common.{◌≡◌, ℕ, ℤ, pos, negsuc, zero, suc, ◌-◌, ◌/◌, ◌%◌, ◌^◌, ◌<◌, ◌⊎◌, inl, inr, refl, sym, ap, ◌∙◌, arith, true, false, true≢false, int_div, int_rem, unsigned_abs}
use Rattle.std.specs.Int.{w32, is_negative}
use Rattle.std.proofs.lemmas.Int.{ints, to_z-of_z, quot-rem, rem_below}
use Rattle.std.proofs.lemmas.Grind.{common_steps}
use Rattle.std.proofs.Math.Nat.{div-lt_self}
use lib.IntN.{neg_ℤ, nat_abs}
use lib.Signed.{mag, mag_rem}
use Rattle.rv_exec.specs.Signed.{signed_of, word_of}
use Rattle.rv_exec.specs.MulDiv.{overflows, signed_quotient, signed_remainder}
use Rattle.rv_exec.specs.Laws.{IsDivision}

sign_of_negated : (n a : ℕ) → (neg_ℤ (pos n) ≡ pos 0) ⊎ (is_negative (neg_ℤ (pos n)) ≡ is_negative (negsuc a))
sign_of_negated zero a = inl refl
sign_of_negated (suc n) a = inr refl

sign_of_remainder : (x y : ℤ) → (int_rem x y ≡ pos 0) ⊎ (is_negative (int_rem x y) ≡ is_negative x)
sign_of_remainder (pos a) y = inr (grind arith)
sign_of_remainder (negsuc a) y = sign_of_negated (suc a % nat_abs y) a

signed_fits : (a : ℕ) → a < 2 ^ 32 → mag (signed_of a) < 2 ^ 31
signed_fits a h = grind (arith, ints)

mag-neg : (n : ℕ) → mag (neg_ℤ (pos n)) ≡ n - 1
mag-neg zero = refl
mag-neg (suc n) = omega arith

-- a quotient of words fits, unless the divisor is -1 and the dividend -2^31
quotient_fits : (x y : ℤ) → mag x < 2 ^ 31 → (y ≡ negsuc 0 → x ≡ negsuc (2 ^ 31 - 1) → ⊥) → mag (int_div x y) < 2 ^ 31
quotient_fits (pos a) (pos b) h apart = omega arith
quotient_fits (pos a) (negsuc b) h apart = omega (arith, mag-neg (a / suc b))
quotient_fits (negsuc a) (pos b) h apart = omega (arith, mag-neg (suc a / b))
quotient_fits (negsuc a) (negsuc zero) h apart =
    let above : a ≡ 2 ^ 31 - 1 → ⊥ = λ e. apart refl (ap negsuc e) in omega arith
quotient_fits (negsuc a) (negsuc (suc b)) h apart = omega (arith, div-lt_self {n = suc a} {k = suc (suc b)} (omega arith) (omega arith))

nonzero : (b : ℕ) → b < 2 ^ 32 → 0 < b → 0 < unsigned_abs (signed_of b)
nonzero b h some = grind (arith, ints)

-- the words that mean -1 and -2^31
minus_one : (b : ℕ) → b < 2 ^ 32 → signed_of b ≡ negsuc 0 → b ≡ 2 ^ 32 - 1
minus_one b h e = grind (arith, ints)

least : (a : ℕ) → a < 2 ^ 32 → signed_of a ≡ negsuc (2 ^ 31 - 1) → a ≡ 2 ^ 31
least a h e = grind (arith, ints)

overflows-true : (a b : ℕ) → a ≡ 2 ^ 31 → b ≡ 2 ^ 32 - 1 → overflows a b ≡ true
overflows-true a b ea eb = grind arith

fits : (a b : ℕ) → a < 2 ^ 32 → b < 2 ^ 32 → overflows a b ≡ false → mag (int_div (signed_of a) (signed_of b)) < 2 ^ 31
fits a b ha hb apart =
    quotient_fits (signed_of a) (signed_of b) (signed_fits a ha) (λ eb ea. absurd (true≢false (sym (overflows-true a b (least a ha ea) (minus_one b hb eb)) ∙ apart)))

quotient_back : (a b : ℕ) → a < 2 ^ 32 → b < 2 ^ 32 → 0 < b → overflows a b ≡ false → signed_of (signed_quotient a b) ≡ int_div (signed_of a) (signed_of b)
quotient_back a b ha hb some apart =
    let chosen : signed_quotient a b ≡ word_of (int_div (signed_of a) (signed_of b)) = grind (arith, common_steps) in
    ap signed_of chosen ∙ to_z-of_z w32 (int_div (signed_of a) (signed_of b)) (record { sfits = fits a b ha hb apart })

remainder_back : (a b : ℕ) → a < 2 ^ 32 → b < 2 ^ 32 → 0 < b → overflows a b ≡ false → signed_of (signed_remainder a b) ≡ int_rem (signed_of a) (signed_of b)
remainder_back a b ha hb some apart =
    let chosen : signed_remainder a b ≡ word_of (int_rem (signed_of a) (signed_of b)) = grind (arith, common_steps) in
    ap signed_of chosen ∙ to_z-of_z w32 (int_rem (signed_of a) (signed_of b)) (record { sfits = omega (arith, mag_rem (signed_of a) (signed_of b), signed_fits a ha) })

-- the law, of the pair that DIV and REM give
pub divides_signed : (a b : ℕ) → a < 2 ^ 32 → b < 2 ^ 32 → 0 < b → overflows a b ≡ false → IsDivision (signed_of a) (signed_of b) (signed_of (signed_quotient a b)) (signed_of (signed_remainder a b))
divides_signed a b ha hb some apart =
    rw (quotient_back a b ha hb some apart, remainder_back a b ha hb some apart)
    (record {
      whole = quot-rem (signed_of a) (signed_of b);
      small = rem_below (signed_of a) (signed_of b) (nonzero b hb some);
      sign = sign_of_remainder (signed_of a) (signed_of b);
    })
