-- What a power of two is good for: a mask in place of a remainder.
use Rattle.std.proofs.Common.{◌≡◌, ◌≢◌, ℕ, zero, suc, ◌-◌, ◌/◌, ◌%◌, ◌<◌, ◌≤◌, ◌⊎◌, inl, inr, arith, IsTrue}
use Rattle.std.specs.Prelude.{bit_and}
use Rattle.std.specs.Int.{is_power_of_two, IsPowerOfTwo}
use Rattle.std.specs.Int.RustNames.{count_ones}
use Rattle.std.proofs.lemmas.Nat.{and_mask, zero_from_ones, ones_le_self, pow_pos}
use Rattle.std.proofs.lemmas.Bool.{cases_eq}
use Rattle.std.proofs.Math.Nat.{pow-suc}
use lib.Count.{ones_step}

-- one step of the induction below: by whether the lowest bit is clear
power_step : (fuel n : ℕ) → ((m : ℕ) → m ≤ fuel → count_ones m ≡ 1 → IsPowerOfTwo m) → n ≤ suc fuel → count_ones n ≡ 1 → (n % 2 ≡ 0) ⊎ (n % 2 ≢ 0) → IsPowerOfTwo n
power_step fuel n smaller within one (inl even) =
    let positive : count_ones n ≤ n = ones_le_self n in
    let half_one : count_ones (n / 2) ≡ 1 = omega (arith, ones_step n) in
    let half : IsPowerOfTwo (n / 2) = smaller (n / 2) (omega arith) half_one in
    (suc half.0, omega (arith, half.1, pow-suc 2 half.0))
power_step fuel n smaller within one (inr odd) =
    let none : n / 2 ≡ 0 = zero_from_ones (n / 2) (omega (arith, ones_step n)) in (0, omega arith)

power_within : (fuel n : ℕ) → n ≤ fuel → count_ones n ≡ 1 → IsPowerOfTwo n
power_within zero n within one = absurd (omega (arith, ones_le_self n))
power_within (suc fuel) n within one = power_step fuel n (power_within fuel) within one (cases_eq (n % 2) 0)

-- a number with one bit set is a power of two
pub power_of_two : (n : ℕ) → IsTrue (is_power_of_two n) → IsPowerOfTwo n
power_of_two n h = power_within n n (omega arith) (grind (arith, h))

pub power_positive : (n : ℕ) → IsTrue (is_power_of_two n) → 0 < n
power_positive n h = let p = power_of_two n h in omega (arith, p.1, pow_pos p.0)

-- the mask below a power of two takes the remainder by it
pub and_power : (n x : ℕ) → IsTrue (is_power_of_two n) → bit_and x (n - 1) ≡ x % n
and_power n x h = let p = power_of_two n h in rw p.1 (and_mask x p.0)
