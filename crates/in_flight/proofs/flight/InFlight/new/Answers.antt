use Rattle.std.proofs.Common.{ℕ, ◌^◌, ◌≤◌, inl, inr, arith, pow_mono}
use Rattle.std.specs.Int.{IsNextPowerOfTwo}
use Rattle.std.proofs.lemmas.Bool.{cases_lt}
use Rattle.in_flight.proofs.flight.InFlight.new.Goals as goal

-- 256 is a power of two itself
few : (capacity room : ℕ) → IsNextPowerOfTwo capacity room → capacity ≤ 256 → room ≤ 256
few capacity room next limit = elim (cases_lt next.0.0 9) [
  | inl low ↦ let most : 2 ^ next.0.0 ≤ 2 ^ 8 = pow_mono {j = 8} (omega (arith, low)) in omega (arith, next.0.1, most)
  | inr high ↦ let least : 2 ^ 9 ≤ 2 ^ next.0.0 = pow_mono {i = 9} high in absurd (grind (arith, next.0.1, next.2, least, limit))
]

pub new-requires-2 : goal.new-requires-2
new-requires-2 c = record { limit = few c.args.capacity c.room.result (rw c.in_ok-window.ensures.opening at c.room.ensures.power) c.requires.limit }
