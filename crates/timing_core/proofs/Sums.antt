-- Sums in 64 bits, where they are below their end.
use Rattle.std.proofs.Common.{◌≡◌, ℕ, ◌+◌, ◌-◌, ◌%◌, ◌^◌, ◌<◌, if◌then◌else◌, Bool, true, false, arith, List, length, take, length-take}

-- a sum in 64 bits is the sum itself, where that is small
pub risen : (r n m k : ℕ) → r ≡ (n + k) % 2 ^ 64 → n ≡ m → m < 2 ^ 63 + 2 ^ 32 → k < 2 ^ 62 → r ≡ m + k
risen r n m k is same small step = omega arith

-- one more where there is one
pub counted : (r n m : ℕ) (there : Bool) → r ≡ (if there then (n + 1) % 2 ^ 64 else n) → n ≡ m → m < 2 ^ 63 + 2 ^ 32 → r ≡ m + (if there then 1 else 0)
counted r n m true is same small = omega arith
counted r n m false is same small = omega arith

-- what a flush removes
pub removed : {A : Type 0} (xs : List A) (place : ℕ) → length xs - length (take place xs) ≡ length xs - place
removed xs place = omega (arith, length-take place xs)
