-- Encoding: an instruction's fields at their places in the word
-- (RISC-V unprivileged manual, section 2.2 "Base Instruction Formats", and section 2.3
-- "Immediate Encoding Variants").
use Rattle.std.specs.Prelude.{ℕ, ◌+◌, ◌*◌, ◌^◌, true, false}
use Rattle.fsim_base.specs.Number.{bits_of}
use Rattle.rv_decode.specs.declared.insn.Insn.{Insn}
use Rattle.rv_decode.specs.declared.insn.Insn.TheVariants.{Lui, Auipc, Jal, Jalr, Branch, Load, Store, OpImm, Op, MulDiv, Fence, Ecall, Ebreak, Mret, Wfi, Csr}

abbrev pub r_word : ℕ → ℕ → ℕ → ℕ → ℕ → ℕ → ℕ
r_word opcode rd funct3 rs1 rs2 funct7 =
    opcode + rd * 2 ^ 7 + funct3 * 2 ^ 12 + rs1 * 2 ^ 15 + rs2 * 2 ^ 20 + funct7 * 2 ^ 25

-- `upper` is what stands in the twelve upper bits: an immediate, a CSR's address or FENCE's fields
abbrev pub i_word : ℕ → ℕ → ℕ → ℕ → ℕ → ℕ
i_word opcode rd funct3 rs1 upper = opcode + rd * 2 ^ 7 + funct3 * 2 ^ 12 + rs1 * 2 ^ 15 + upper * 2 ^ 20

abbrev pub s_word : ℕ → ℕ → ℕ → ℕ → ℕ → ℕ
s_word opcode funct3 rs1 rs2 imm = r_word opcode (bits_of imm 4 0) funct3 rs1 rs2 (bits_of imm 11 5)

abbrev pub b_word : ℕ → ℕ → ℕ → ℕ → ℕ → ℕ
b_word opcode funct3 rs1 rs2 imm =
    r_word opcode (bits_of imm 4 1 * 2 + bits_of imm 11 11) funct3 rs1 rs2
    (bits_of imm 12 12 * 2 ^ 6 + bits_of imm 10 5)

abbrev pub u_word : ℕ → ℕ → ℕ → ℕ
u_word opcode rd imm = opcode + rd * 2 ^ 7 + bits_of imm 31 12 * 2 ^ 12

abbrev pub j_word : ℕ → ℕ → ℕ → ℕ
j_word opcode rd imm =
    opcode + rd * 2 ^ 7 + bits_of imm 19 12 * 2 ^ 12 + bits_of imm 11 11 * 2 ^ 20 + bits_of imm 10 1 * 2 ^ 21
    + bits_of imm 20 20 * 2 ^ 31

-- The word of an instruction that fits.
unfoldable pub encode_of : Insn → ℕ
encode_of (Lui rd imm) = u_word 0x37 rd imm
encode_of (Auipc rd imm) = u_word 0x17 rd imm
encode_of (Jal rd imm) = j_word 0x6f rd imm
encode_of (Jalr rd rs1 imm) = i_word 0x67 rd 0 rs1 (bits_of imm 11 0)
encode_of (Branch kind rs1 rs2 imm) = b_word 0x63 kind rs1 rs2 imm
encode_of (Load kind rd rs1 imm) = i_word 0x03 rd kind rs1 (bits_of imm 11 0)
encode_of (Store kind rs1 rs2 imm) = s_word 0x23 kind rs1 rs2 imm
encode_of (OpImm kind false rd rs1 imm) = i_word 0x13 rd kind rs1 (bits_of imm 11 0)
-- SRAI: the amount stands in the place of rs2
encode_of (OpImm kind true rd rs1 imm) = r_word 0x13 rd kind rs1 imm 0x20
encode_of (Op kind false rd rs1 rs2) = r_word 0x33 rd kind rs1 rs2 0x00
encode_of (Op kind true rd rs1 rs2) = r_word 0x33 rd kind rs1 rs2 0x20
encode_of (MulDiv kind rd rs1 rs2) = r_word 0x33 rd kind rs1 rs2 0x01
encode_of (Fence rd rs1 upper false) = i_word 0x0f rd 0 rs1 upper
encode_of (Fence rd rs1 upper true) = i_word 0x0f rd 1 rs1 upper
encode_of Ecall = 0x00000073
encode_of Ebreak = 0x00100073
encode_of Mret = 0x30200073
encode_of Wfi = 0x10500073
encode_of (Csr kind rd rs1 csr) = i_word 0x73 rd kind rs1 csr
