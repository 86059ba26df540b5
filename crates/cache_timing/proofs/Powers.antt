-- The exponent of a power of two, and how large it is.
use Rattle.std.proofs.Common.{◌≡◌, ℕ, suc, ◌*◌, ◌^◌, ◌<◌, ◌≤◌, ◌⊎◌, inl, inr, arith, lit<, ap, ◌∙◌, IsTrue}
use Rattle.std.specs.Int.{is_power_of_two}
use Rattle.std.proofs.lemmas.Nat.{pow_below}
use Rattle.std.proofs.lemmas.Bool.{cases_lt, cases_order}
use Rattle.std.proofs.Math.Nat.{pow-suc, pow-le-pow_right}
use Rattle.fsim_base.proofs.Powers.{power_of_two}

-- the logarithm, rounded down, of a power of two is its exponent
same_power : (n k bits : ℕ) → n ≡ 2 ^ k → 2 ^ bits ≤ n → n < 2 * 2 ^ bits → (k ≡ bits) ⊎ ((k < bits) ⊎ (bits < k)) → n ≡ 2 ^ bits
same_power n k bits power least most (inl e) = power ∙ ap (λ j. 2 ^ j) e
same_power n k bits power least most (inr (inl l)) = absurd (omega (arith, pow_below k bits l))
same_power n k bits power least most (inr (inr l)) =
    let next : 2 ^ suc bits ≤ 2 ^ k = pow-le-pow_right (lit< tt) l in absurd (omega (arith, pow-suc 2 bits))

pub log_power : (n bits : ℕ) → IsTrue (is_power_of_two n) → 2 ^ bits ≤ n → n < 2 * 2 ^ bits → n ≡ 2 ^ bits
log_power n bits h least most = let p = power_of_two n h in same_power n p.0 bits p.1 least most (cases_order p.0 bits)

within_8 : (n bits : ℕ) → 2 ^ bits ≤ n → n ≤ 256 → (8 < bits) ⊎ (bits ≤ 8) → bits ≤ 8
within_8 n bits least most (inl l) = absurd (omega (arith, pow_below 8 bits l))
within_8 n bits least most (inr l) = l

pub bits_most : (n bits : ℕ) → 2 ^ bits ≤ n → n ≤ 256 → bits ≤ 8
bits_most n bits least most = within_8 n bits least most (cases_lt 8 bits)
