-- The M extension (RISC-V unprivileged manual, "M" Extension for Integer Multiplication and Division).
use Rattle.std.specs.Prelude.{ℕ, ℤ, pos, ◌-◌, ◌*◌, ◌/◌, ◌%◌, ◌^◌, ◌*ℤ◌, ◌==◌, ◌&&◌, Bool, nat_lt, int_div, int_rem, if◌then◌else◌}
use Rattle.std.specs.Int.{w64, cast_unsigned}
use Rattle.rv_exec.specs.Signed.{signed_of, word_of}

-- the upper 32 of a product's 64 bits
abbrev pub upper_half : ℤ → ℕ
upper_half product = cast_unsigned w64 product / 2 ^ 32

-- by funct3: MUL 0, MULH 1 (signed by signed), MULHSU 2 (signed by unsigned), MULHU 3 (unsigned by unsigned)
abbrev pub product_value : ℕ → ℕ → ℕ → ℕ
product_value kind a b =
    if kind == 0 then a * b % 2 ^ 32
    else if kind == 1 then upper_half (signed_of a *ℤ signed_of b)
    else if kind == 2 then upper_half (signed_of a *ℤ pos b)
    else upper_half (pos a *ℤ pos b)

-- -2^31 by -1: the one quotient of two signed words that isn't one
abbrev pub overflows : ℕ → ℕ → Bool
overflows a b = a == 2 ^ 31 && b == 2 ^ 32 - 1

-- DIV and REM round toward zero; the first two rows are the manual's table of division by zero and overflow
abbrev pub signed_quotient : ℕ → ℕ → ℕ
signed_quotient a b =
    if b == 0 then 2 ^ 32 - 1
    else if overflows a b then 2 ^ 31
    else word_of (int_div (signed_of a) (signed_of b))

abbrev pub signed_remainder : ℕ → ℕ → ℕ
signed_remainder a b =
    if b == 0 then a
    else if overflows a b then 0
    else word_of (int_rem (signed_of a) (signed_of b))

-- DIVU and REMU
abbrev pub quotient : ℕ → ℕ → ℕ
quotient a b = if b == 0 then 2 ^ 32 - 1 else a / b

abbrev pub remainder : ℕ → ℕ → ℕ
remainder a b = if b == 0 then a else a % b

-- by funct3: DIV 4, DIVU 5, REM 6, REMU 7
abbrev pub division_value : ℕ → ℕ → ℕ → ℕ
division_value kind a b =
    if kind == 4 then signed_quotient a b
    else if kind == 5 then quotient a b
    else if kind == 6 then signed_remainder a b
    else remainder a b

-- No word has a funct3 above 7; it would count as the last row.
abbrev pub muldiv_value : ℕ → ℕ → ℕ → ℕ
muldiv_value kind a b = if nat_lt kind 4 then product_value kind a b else division_value kind a b
