-- What products and quotients are to satisfy (RISC-V unprivileged manual, "M").
use Rattle.std.specs.Prelude.{ℕ, ℤ, pos, ◌≡◌, ◌+◌, ◌*◌, ◌^◌, ◌+ℤ◌, ◌*ℤ◌, ◌<◌, ◌⊎◌, unsigned_abs}
use Rattle.std.specs.Int.{w64, cast_unsigned, is_negative}

-- the two words together are the product's 64 bits
abbrev pub AreHalves : ℕ → ℕ → ℤ → Type 0
AreHalves upper lower product = upper * 2 ^ 32 + lower ≡ cast_unsigned w64 product

-- rounded toward zero: what remains is smaller than the divisor and, unless it is 0, has the dividend's sign
pub record IsDivision (dividend divisor quotient remainder : ℤ) : Type 0 where
  pub whole : quotient *ℤ divisor +ℤ remainder ≡ dividend
  pub small : unsigned_abs remainder < unsigned_abs divisor
  pub sign : (remainder ≡ pos 0) ⊎ (is_negative remainder ≡ is_negative dividend)
