-- The table of instructions: RV32I, M, Zicsr, Zifencei, and MRET and WFI of the privileged manual
-- (RISC-V unprivileged manual, chapter "RV32/64G Instruction Set Listings"; privileged manual,
-- chapter "RISC-V Privileged Instruction Set Listings").
use Rattle.std.specs.Prelude.{ℕ, ◌==◌, Bool, true, false, List, [], ◌∷◌}
use Rattle.std.specs.List.{list_all}
use Rattle.fsim_base.specs.Number.{bits_of}
use Rattle.rv_decode.specs.declared.insn.Insn.{Insn}
use Rattle.rv_decode.specs.declared.insn.Insn.TheVariants.{Lui, Auipc, Jal, Jalr, Branch, Load, Store, OpImm, Op, MulDiv, Fence, Ecall, Ebreak, Mret, Wfi, Csr}
use Rattle.rv_decode.specs.Field.{rd_of, rs1_of, rs2_of, upper_of, i_immediate, s_immediate, b_immediate, u_immediate, j_immediate}

-- Fixed bits of a row: the bits `high` down to `low` have this value.
pub record Fixed : Type 0 where
  pub high : ℕ
  pub low : ℕ
  pub value : ℕ

abbrev pub opcode : ℕ → Fixed
opcode value = record { high = 6; low = 0; value = value }

abbrev pub funct3 : ℕ → Fixed
funct3 value = record { high = 14; low = 12; value = value }

abbrev pub funct7 : ℕ → Fixed
funct7 value = record { high = 31; low = 25; value = value }

abbrev pub whole : ℕ → Fixed
whole value = record { high = 31; low = 0; value = value }

-- A row: the bits that its words have in common, and the instruction that the fields of such a word make.
pub record Row : Type 0 where
  pub fixed : List Fixed
  pub insn : ℕ → Insn

-- the word has these bits
abbrev pub has_bits : ℕ → Fixed → Bool
has_bits word bits = bits_of word bits.high bits.low == bits.value

-- the word has all fixed bits of the row
abbrev pub has_fixed : ℕ → Row → Bool
has_fixed word row = list_all (has_bits word) row.fixed

-- The formats: which fields an instruction is made of.
abbrev pub r_format : (ℕ → ℕ → ℕ → Insn) → ℕ → Insn
r_format make word = make (rd_of word) (rs1_of word) (rs2_of word)

abbrev pub i_format : (ℕ → ℕ → ℕ → Insn) → ℕ → Insn
i_format make word = make (rd_of word) (rs1_of word) (i_immediate word)

abbrev pub s_format : (ℕ → ℕ → ℕ → Insn) → ℕ → Insn
s_format make word = make (rs1_of word) (rs2_of word) (s_immediate word)

abbrev pub b_format : (ℕ → ℕ → ℕ → Insn) → ℕ → Insn
b_format make word = make (rs1_of word) (rs2_of word) (b_immediate word)

abbrev pub u_format : (ℕ → ℕ → Insn) → ℕ → Insn
u_format make word = make (rd_of word) (u_immediate word)

abbrev pub j_format : (ℕ → ℕ → Insn) → ℕ → Insn
j_format make word = make (rd_of word) (j_immediate word)

-- the amount of a shift stands in the place of rs2
abbrev pub shift_format : (ℕ → ℕ → ℕ → Insn) → ℕ → Insn
shift_format make word = make (rd_of word) (rs1_of word) (bits_of word 24 20)

-- the twelve upper bits are the CSR's address
abbrev pub csr_format : (ℕ → ℕ → ℕ → Insn) → ℕ → Insn
csr_format make word = make (rd_of word) (rs1_of word) (upper_of word)

-- the fields of FENCE and FENCE.I are kept, though they don't count
abbrev pub fence_format : Bool → ℕ → Insn
fence_format fetch word = Fence (rd_of word) (rs1_of word) (upper_of word) fetch

-- the whole word is fixed
abbrev pub no_format : Insn → ℕ → Insn
no_format insn word = insn

abbrev pub row : List Fixed → (ℕ → Insn) → Row
row fixed insn = record { fixed = fixed; insn = insn }

unfoldable pub table : List Row
table =
    row (opcode 0x37 ∷ []) (u_format Lui)  -- LUI
    ∷ row (opcode 0x17 ∷ []) (u_format Auipc)  -- AUIPC
    ∷ row (opcode 0x6f ∷ []) (j_format Jal)  -- JAL
    ∷ row (opcode 0x67 ∷ funct3 0 ∷ []) (i_format Jalr)  -- JALR
    ∷ row (opcode 0x63 ∷ funct3 0 ∷ []) (b_format (Branch 0))  -- BEQ
    ∷ row (opcode 0x63 ∷ funct3 1 ∷ []) (b_format (Branch 1))  -- BNE
    ∷ row (opcode 0x63 ∷ funct3 4 ∷ []) (b_format (Branch 4))  -- BLT
    ∷ row (opcode 0x63 ∷ funct3 5 ∷ []) (b_format (Branch 5))  -- BGE
    ∷ row (opcode 0x63 ∷ funct3 6 ∷ []) (b_format (Branch 6))  -- BLTU
    ∷ row (opcode 0x63 ∷ funct3 7 ∷ []) (b_format (Branch 7))  -- BGEU
    ∷ row (opcode 0x03 ∷ funct3 0 ∷ []) (i_format (Load 0))  -- LB
    ∷ row (opcode 0x03 ∷ funct3 1 ∷ []) (i_format (Load 1))  -- LH
    ∷ row (opcode 0x03 ∷ funct3 2 ∷ []) (i_format (Load 2))  -- LW
    ∷ row (opcode 0x03 ∷ funct3 4 ∷ []) (i_format (Load 4))  -- LBU
    ∷ row (opcode 0x03 ∷ funct3 5 ∷ []) (i_format (Load 5))  -- LHU
    ∷ row (opcode 0x23 ∷ funct3 0 ∷ []) (s_format (Store 0))  -- SB
    ∷ row (opcode 0x23 ∷ funct3 1 ∷ []) (s_format (Store 1))  -- SH
    ∷ row (opcode 0x23 ∷ funct3 2 ∷ []) (s_format (Store 2))  -- SW
    ∷ row (opcode 0x13 ∷ funct3 0 ∷ []) (i_format (OpImm 0 false))  -- ADDI
    ∷ row (opcode 0x13 ∷ funct3 2 ∷ []) (i_format (OpImm 2 false))  -- SLTI
    ∷ row (opcode 0x13 ∷ funct3 3 ∷ []) (i_format (OpImm 3 false))  -- SLTIU
    ∷ row (opcode 0x13 ∷ funct3 4 ∷ []) (i_format (OpImm 4 false))  -- XORI
    ∷ row (opcode 0x13 ∷ funct3 6 ∷ []) (i_format (OpImm 6 false))  -- ORI
    ∷ row (opcode 0x13 ∷ funct3 7 ∷ []) (i_format (OpImm 7 false))  -- ANDI
    ∷ row (opcode 0x13 ∷ funct3 1 ∷ funct7 0x00 ∷ []) (shift_format (OpImm 1 false))  -- SLLI
    ∷ row (opcode 0x13 ∷ funct3 5 ∷ funct7 0x00 ∷ []) (shift_format (OpImm 5 false))  -- SRLI
    ∷ row (opcode 0x13 ∷ funct3 5 ∷ funct7 0x20 ∷ []) (shift_format (OpImm 5 true))  -- SRAI
    ∷ row (opcode 0x33 ∷ funct3 0 ∷ funct7 0x00 ∷ []) (r_format (Op 0 false))  -- ADD
    ∷ row (opcode 0x33 ∷ funct3 0 ∷ funct7 0x20 ∷ []) (r_format (Op 0 true))  -- SUB
    ∷ row (opcode 0x33 ∷ funct3 1 ∷ funct7 0x00 ∷ []) (r_format (Op 1 false))  -- SLL
    ∷ row (opcode 0x33 ∷ funct3 2 ∷ funct7 0x00 ∷ []) (r_format (Op 2 false))  -- SLT
    ∷ row (opcode 0x33 ∷ funct3 3 ∷ funct7 0x00 ∷ []) (r_format (Op 3 false))  -- SLTU
    ∷ row (opcode 0x33 ∷ funct3 4 ∷ funct7 0x00 ∷ []) (r_format (Op 4 false))  -- XOR
    ∷ row (opcode 0x33 ∷ funct3 5 ∷ funct7 0x00 ∷ []) (r_format (Op 5 false))  -- SRL
    ∷ row (opcode 0x33 ∷ funct3 5 ∷ funct7 0x20 ∷ []) (r_format (Op 5 true))  -- SRA
    ∷ row (opcode 0x33 ∷ funct3 6 ∷ funct7 0x00 ∷ []) (r_format (Op 6 false))  -- OR
    ∷ row (opcode 0x33 ∷ funct3 7 ∷ funct7 0x00 ∷ []) (r_format (Op 7 false))  -- AND
    ∷ row (opcode 0x33 ∷ funct3 0 ∷ funct7 0x01 ∷ []) (r_format (MulDiv 0))  -- MUL
    ∷ row (opcode 0x33 ∷ funct3 1 ∷ funct7 0x01 ∷ []) (r_format (MulDiv 1))  -- MULH
    ∷ row (opcode 0x33 ∷ funct3 2 ∷ funct7 0x01 ∷ []) (r_format (MulDiv 2))  -- MULHSU
    ∷ row (opcode 0x33 ∷ funct3 3 ∷ funct7 0x01 ∷ []) (r_format (MulDiv 3))  -- MULHU
    ∷ row (opcode 0x33 ∷ funct3 4 ∷ funct7 0x01 ∷ []) (r_format (MulDiv 4))  -- DIV
    ∷ row (opcode 0x33 ∷ funct3 5 ∷ funct7 0x01 ∷ []) (r_format (MulDiv 5))  -- DIVU
    ∷ row (opcode 0x33 ∷ funct3 6 ∷ funct7 0x01 ∷ []) (r_format (MulDiv 6))  -- REM
    ∷ row (opcode 0x33 ∷ funct3 7 ∷ funct7 0x01 ∷ []) (r_format (MulDiv 7))  -- REMU
    ∷ row (opcode 0x0f ∷ funct3 0 ∷ []) (fence_format false)  -- FENCE
    ∷ row (opcode 0x0f ∷ funct3 1 ∷ []) (fence_format true)  -- FENCE.I
    ∷ row (whole 0x00000073 ∷ []) (no_format Ecall)  -- ECALL
    ∷ row (whole 0x00100073 ∷ []) (no_format Ebreak)  -- EBREAK
    ∷ row (whole 0x30200073 ∷ []) (no_format Mret)  -- MRET
    ∷ row (whole 0x10500073 ∷ []) (no_format Wfi)  -- WFI
    ∷ row (opcode 0x73 ∷ funct3 1 ∷ []) (csr_format (Csr 1))  -- CSRRW
    ∷ row (opcode 0x73 ∷ funct3 2 ∷ []) (csr_format (Csr 2))  -- CSRRS
    ∷ row (opcode 0x73 ∷ funct3 3 ∷ []) (csr_format (Csr 3))  -- CSRRC
    ∷ row (opcode 0x73 ∷ funct3 5 ∷ []) (csr_format (Csr 5))  -- CSRRWI
    ∷ row (opcode 0x73 ∷ funct3 6 ∷ []) (csr_format (Csr 6))  -- CSRRSI
    ∷ row (opcode 0x73 ∷ funct3 7 ∷ []) (csr_format (Csr 7))  -- CSRRCI
    ∷ []
