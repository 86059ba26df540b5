-- The fields of an instruction word and the immediates that they spell
-- (RISC-V unprivileged manual, section 2.2 "Base Instruction Formats", and section 2.3
-- "Immediate Encoding Variants").
use Rattle.std.specs.Prelude.{ℕ, ◌+◌, ◌*◌, ◌^◌}
use Rattle.fsim_base.specs.Number.{bits_of, sign_extended}

-- the number of the register that is written
abbrev pub rd_of : ℕ → ℕ
rd_of word = bits_of word 11 7

-- the numbers of the registers that are read
abbrev pub rs1_of : ℕ → ℕ
rs1_of word = bits_of word 19 15

abbrev pub rs2_of : ℕ → ℕ
rs2_of word = bits_of word 24 20

-- the twelve upper bits: a CSR's address, or FENCE's fm, pred and succ
abbrev pub upper_of : ℕ → ℕ
upper_of word = bits_of word 31 20

abbrev pub i_immediate : ℕ → ℕ
i_immediate word = sign_extended (bits_of word 31 20) 12

abbrev pub s_immediate : ℕ → ℕ
s_immediate word = sign_extended (bits_of word 31 25 * 2 ^ 5 + bits_of word 11 7) 12

abbrev pub b_immediate : ℕ → ℕ
b_immediate word =
    sign_extended
    (bits_of word 31 31 * 2 ^ 12 + bits_of word 7 7 * 2 ^ 11 + bits_of word 30 25 * 2 ^ 5 + bits_of word 11 8 * 2)
    13

abbrev pub u_immediate : ℕ → ℕ
u_immediate word = bits_of word 31 12 * 2 ^ 12

abbrev pub j_immediate : ℕ → ℕ
j_immediate word =
    sign_extended
    (bits_of word 31 31 * 2 ^ 20 + bits_of word 19 12 * 2 ^ 12 + bits_of word 20 20 * 2 ^ 11 + bits_of word 30 21 * 2)
    21
