-- Integer computational instructions (RISC-V unprivileged manual, sections 2.4.1 and 2.4.2).
use Rattle.std.specs.Prelude.{ℕ, ◌+◌, ◌-◌, ◌*◌, ◌/◌, ◌%◌, ◌^◌, Bool, ◌==◌, nat_lt, int_lt, bit_and, bit_or, bit_xor, if◌then◌else◌}
use Rattle.std.specs.Int.{int_shr}
use Rattle.fsim_base.specs.Number.{wrap_sum}
use Rattle.rv_exec.specs.Signed.{signed_of, word_of}

-- the difference modulo 2^32
abbrev pub wrap_difference : ℕ → ℕ → ℕ
wrap_difference a b = (a + (2 ^ 32 - b)) % 2 ^ 32

-- the answer of a comparison, as a register holds it
abbrev pub truth : Bool → ℕ
truth holds = if holds then 1 else 0

-- Shifts are by the low five bits of the amount. A right shift rounds down: a number without sign, or a signed one.
abbrev pub shifted_left : ℕ → ℕ → ℕ
shifted_left a amount = a * 2 ^ (amount % 32) % 2 ^ 32

abbrev pub shifted_right : ℕ → ℕ → ℕ
shifted_right a amount = a / 2 ^ (amount % 32)

abbrev pub shifted_right_signed : ℕ → ℕ → ℕ
shifted_right_signed a amount = word_of (int_shr (signed_of a) (amount % 32))

-- by funct3: ADD or SUB 0, SLL 1, SLT 2, SLTU 3, XOR 4, SRL or SRA 5, OR 6, AND 7,
-- the second of a pair where funct7 is 0x20. No word has another funct3; it would count as the last row.
abbrev pub alu_value : ℕ → Bool → ℕ → ℕ → ℕ
alu_value kind alternative a b =
    if kind == 0 then (if alternative then wrap_difference a b else wrap_sum a b)
    else if kind == 1 then shifted_left a b
    else if kind == 2 then truth (int_lt (signed_of a) (signed_of b))
    else if kind == 3 then truth (nat_lt a b)
    else if kind == 4 then bit_xor a b
    else if kind == 5 then (if alternative then shifted_right_signed a b else shifted_right a b)
    else if kind == 6 then bit_or a b
    else bit_and a b
