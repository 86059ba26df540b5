-- Which values of the type of instructions some word spells.
use Rattle.std.specs.Prelude.{◌≡◌, ◌≢◌, ℕ, ◌%◌, ◌^◌, ◌<◌, ◌==◌, ◌||◌, ◌⊎◌, Some, MatchBool}
use Rattle.std.specs.Bool.{OnTrue}
use Rattle.fsim_base.specs.Number.{sign_extended}
use Rattle.rv_decode.specs.declared.insn.Insn.{Insn}
use Rattle.rv_decode.specs.declared.insn.Insn.TheVariants.{Lui, Auipc, Jal, Jalr, Branch, Load, Store, OpImm, Op, MulDiv, Fence, Ecall, Ebreak, Mret, Wfi, Csr}
use Rattle.rv_decode.specs.Decode.{decode_of}

abbrev pub IsRegister : ℕ → Type 0
IsRegister number = number < 32

-- the value is its lowest `bits` bits, widened by their sign
abbrev pub IsImmediate : ℕ → ℕ → Type 0
IsImmediate value bits = sign_extended value bits ≡ value

-- an immediate that counts bytes in steps of two
abbrev pub IsOffset : ℕ → ℕ → Type 0
IsOffset value bits = IsImmediate value bits × (value % 2 ≡ 0)

-- an immediate of the twenty upper bits
abbrev pub IsUpper : ℕ → Type 0
IsUpper value = (value < 2 ^ 32) × (value % 2 ^ 12 ≡ 0)

-- Each field is in its range, and funct3 and funct7 are those of a row.
abbrev pub Fits : Insn → Type 0
Fits (Lui rd imm) = IsRegister rd × IsUpper imm
Fits (Auipc rd imm) = IsRegister rd × IsUpper imm
Fits (Jal rd imm) = IsRegister rd × IsOffset imm 21
Fits (Jalr rd rs1 imm) = IsRegister rd × IsRegister rs1 × IsImmediate imm 12
Fits (Branch kind rs1 rs2 imm) =
    (kind < 8) × (kind ≢ 2) × (kind ≢ 3) × IsRegister rs1 × IsRegister rs2 × IsOffset imm 13
Fits (Load kind rd rs1 imm) = (kind < 6) × (kind ≢ 3) × IsRegister rd × IsRegister rs1 × IsImmediate imm 12
Fits (Store kind rs1 rs2 imm) = (kind < 3) × IsRegister rs1 × IsRegister rs2 × IsImmediate imm 12
-- the amount of a shift is below 32, and only a shift to the right has a second form
Fits (OpImm kind alt rd rs1 imm) =
    (kind < 8) × OnTrue alt (kind ≡ 5) × IsRegister rd × IsRegister rs1
    × MatchBool (kind == 1 || kind == 5) (imm < 32) (IsImmediate imm 12)
-- only ADD and SRL have a second form, SUB and SRA
Fits (Op kind alt rd rs1 rs2) =
    (kind < 8) × OnTrue alt ((kind ≡ 0) ⊎ (kind ≡ 5)) × IsRegister rd × IsRegister rs1 × IsRegister rs2
Fits (MulDiv kind rd rs1 rs2) = (kind < 8) × IsRegister rd × IsRegister rs1 × IsRegister rs2
Fits (Fence rd rs1 upper fetch) = IsRegister rd × IsRegister rs1 × (upper < 2 ^ 12)
Fits Ecall = Unit {0}
Fits Ebreak = Unit {0}
Fits Mret = Unit {0}
Fits Wfi = Unit {0}
Fits (Csr kind rd rs1 csr) = (kind < 8) × (kind ≢ 0) × (kind ≢ 4) × IsRegister rd × IsRegister rs1 × (csr < 2 ^ 12)

-- some word is decoded to the instruction
abbrev pub HasWord : Insn → Type 0
HasWord insn = (word : ℕ) × (word < 2 ^ 32) × (decode_of word ≡ Some insn)
