-- Numbers of 32 bits (RISC-V unprivileged manual, section 1.3 and chapter 2: sums wrap modulo 2^32).
use Rattle.std.specs.Prelude.{ℕ, ◌+◌, ◌-◌, ◌/◌, ◌%◌, ◌^◌, nat_lt, if◌then◌else◌}

-- the bits `high` down to `low` of a number, as a number
abbrev pub bits_of : ℕ → ℕ → ℕ → ℕ
bits_of word high low = word / 2 ^ low % 2 ^ (high + 1 - low)

-- a number below 2^bits, read as two's complement of that many bits, in 32 bits
abbrev pub widened : ℕ → ℕ → ℕ
widened low bits = if nat_lt low (2 ^ (bits - 1)) then low else low + (2 ^ 32 - 2 ^ bits)

-- the low `bits` bits of a number, read as two's complement, in 32 bits
abbrev pub sign_extended : ℕ → ℕ → ℕ
sign_extended value bits = widened (value % 2 ^ bits) bits

-- the sum modulo 2^32
abbrev pub wrap_sum : ℕ → ℕ → ℕ
wrap_sum a b = (a + b) % 2 ^ 32
