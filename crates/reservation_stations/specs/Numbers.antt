-- An option in one number: what is there, below 256, or a number above that for none.
use Rattle.std.specs.Prelude.{◌≡◌, ◌≢◌, ℕ, ◌≤◌, if◌then◌else◌, nat_lt, true, false, Option, Some, None}
use Rattle.std.proofs.Common.{refl, inl, inr, arith}
use Rattle.std.proofs.lemmas.Bool.{cases_lt}
use Rattle.std.proofs.lemmas.Bool.Decides.{nat_tests}

-- what a number stands for
abbrev pub in_number : ℕ → Option ℕ
in_number number = if nat_lt number 256 then Some number else None

-- the number of an option, where one is given for none
abbrev pub number_of : ℕ → Option ℕ → ℕ
number_of none None = none
number_of none (Some there) = there

pub number_again : (none number : ℕ) → (256 ≤ number → none ≡ number) → number_of none (in_number number) ≡ number
number_again none number last = elim (cases_lt number 256) [
  | inl below ↦ let some : nat_lt number 256 ≡ true = grind (arith, nat_tests) in rw some refl
  | inr above ↦
      let nothing : nat_lt number 256 ≡ false = grind (arith, nat_tests) in
      let same : none ≡ number = last (omega (arith, above)) in
      rw nothing same
]

-- the number of a producer and of a source
pub up_to_256 : (number : ℕ) → number ≤ 256 → number_of 256 (in_number number) ≡ number
up_to_256 number within = number_again 256 number (λ above. omega (arith, within, above))

-- the number of a destination
pub skipping_256 : (number : ℕ) → (number ≤ 257) × (number ≢ 256) → number_of 257 (in_number number) ≡ number
skipping_256 number within = number_again 257 number (λ above. omega (arith, within.0, within.1, above))
