-- A mask in place of a remainder by the power of two that is one more.
use Rattle.std.proofs.Common.{◌≡◌, ◌≢◌, ℕ, ◌+◌, ◌-◌, ◌%◌, ◌^◌, ◌≤◌, ◌==◌, ◌||◌, max, arith, IsTrue, ⊎_elim, refl, ap, sym, ◌∙◌, subst}
use Rattle.std.specs.Prelude.{bit_and}
use Rattle.std.specs.Int.{is_power_of_two}
use Rattle.std.proofs.lemmas.Bool.{cases_eq}
use Rattle.std.proofs.lemmas.Grind.{common_steps}
use Rattle.std.proofs.lemmas.Nat as nat
use lib.Count.{ones}
use Rattle.fsim_base.proofs.Powers.{and_power, power_positive}

pub and_within : (x mask : ℕ) → bit_and x mask ≤ mask
and_within x mask = nat.and_le_r x mask

back : (mask : ℕ) → mask + 1 - 1 ≡ mask
back mask = omega arith

pub and_mask : (x mask : ℕ) → IsTrue (is_power_of_two (mask + 1)) → bit_and x mask ≡ x % (mask + 1)
and_mask x mask power = ap (λ m. bit_and x m) (sym (back mask)) ∙ and_power (mask + 1) x power

pub and_power_mask : (x mask bits : ℕ) → mask + 1 ≡ 2 ^ bits → bit_and x mask ≡ x % 2 ^ bits
and_power_mask x mask bits power =
    let below : mask ≡ 2 ^ bits - 1 = omega arith in ap (λ m. bit_and x m) below ∙ nat.and_mask x bits

-- one more than the mask below a power of two is that power
pub above : (n : ℕ) → IsTrue (is_power_of_two n) → n - 1 + 1 ≡ n
above n power = omega (arith, power_positive n power)

pub power_above : (n : ℕ) → IsTrue (is_power_of_two n) → IsTrue (is_power_of_two (n - 1 + 1))
power_above n power = let P : ℕ → Type 0 = λ m. IsTrue (is_power_of_two m) in subst P (sym (above n power)) power

one_power : IsTrue (is_power_of_two 1)
unfolding ones
one_power = refl

-- how many places there are, at least one, is a power of two
pub places_power : (targets : ℕ) → IsTrue (targets == 0 || is_power_of_two targets) → IsTrue (is_power_of_two (max targets 1))
places_power targets sound =
    let P : ℕ → Type 0 = λ m. IsTrue (is_power_of_two m) in
    let none : targets ≡ 0 → IsTrue (is_power_of_two (max targets 1)) =
    λ zero. let one : 1 ≡ max targets 1 = omega arith in subst P one one_power in
    let some : targets ≢ 0 → IsTrue (is_power_of_two (max targets 1)) =
    λ apart. let same : targets ≡ max targets 1 = omega arith in
    let power : IsTrue (is_power_of_two targets) = grind (arith, common_steps) in subst P same power in
    ⊎_elim none some (cases_eq targets 0)
