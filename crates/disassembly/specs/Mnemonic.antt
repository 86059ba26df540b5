-- The mnemonic of an instruction (RISC-V unprivileged manual, chapter "RV32/64G Instruction Set Listings"; privileged
-- manual, chapter "RISC-V Privileged Instruction Set Listings").
use Rattle.std.specs.Prelude.{ℕ, ◌==◌, if◌then◌else◌, Bool, true, false, List, [], ◌∷◌, codes, map, slice_index_or}
use Rattle.rv_decode.specs.declared.insn.Insn.{Insn}
use Rattle.rv_decode.specs.declared.insn.Insn.TheVariants.{Lui, Auipc, Jal, Jalr, Branch, Load, Store, OpImm, Op, MulDiv, Fence, Ecall, Ebreak, Mret, Wfi, Csr}
use Rattle.rv_decode.specs.Table.{table}
use Rattle.disassembly.specs.Number.{Text}

-- The mnemonics of the rows that share an opcode, by funct3. A value that has no row has an empty one.
abbrev pub by_funct3 : List Text → ℕ → Text
by_funct3 names kind = slice_index_or names kind []

unfoldable pub branches : List Text
branches = codes "beq" ∷ codes "bne" ∷ [] ∷ [] ∷ codes "blt" ∷ codes "bge" ∷ codes "bltu" ∷ codes "bgeu" ∷ []

unfoldable pub loads : List Text
loads = codes "lb" ∷ codes "lh" ∷ codes "lw" ∷ [] ∷ codes "lbu" ∷ codes "lhu" ∷ []

unfoldable pub stores : List Text
stores = codes "sb" ∷ codes "sh" ∷ codes "sw" ∷ []

unfoldable pub immediate_forms : List Text
immediate_forms = codes "addi" ∷ codes "slli" ∷ codes "slti" ∷ codes "sltiu" ∷ codes "xori" ∷ codes "srli" ∷ codes "ori" ∷ codes "andi" ∷ []

unfoldable pub register_forms : List Text
register_forms = codes "add" ∷ codes "sll" ∷ codes "slt" ∷ codes "sltu" ∷ codes "xor" ∷ codes "srl" ∷ codes "or" ∷ codes "and" ∷ []

unfoldable pub products : List Text
products = codes "mul" ∷ codes "mulh" ∷ codes "mulhsu" ∷ codes "mulhu" ∷ codes "div" ∷ codes "divu" ∷ codes "rem" ∷ codes "remu" ∷ []

unfoldable pub csr_forms : List Text
csr_forms = [] ∷ codes "csrrw" ∷ codes "csrrs" ∷ codes "csrrc" ∷ [] ∷ codes "csrrwi" ∷ codes "csrrsi" ∷ codes "csrrci" ∷ []

-- `alt` says that funct7 is 0x20
abbrev pub immediate_name : ℕ → Bool → Text
immediate_name kind false = by_funct3 immediate_forms kind
immediate_name kind true = codes "srai"

abbrev pub register_name : ℕ → Bool → Text
register_name kind false = by_funct3 register_forms kind
register_name kind true = if kind == 0 then codes "sub" else codes "sra"

-- The mnemonic of an instruction, and so of the row of the instruction table that makes it.
unfoldable pub mnemonic : Insn → Text
mnemonic (Lui rd imm) = codes "lui"
mnemonic (Auipc rd imm) = codes "auipc"
mnemonic (Jal rd imm) = codes "jal"
mnemonic (Jalr rd rs1 imm) = codes "jalr"
mnemonic (Branch kind rs1 rs2 imm) = by_funct3 branches kind
mnemonic (Load kind rd rs1 imm) = by_funct3 loads kind
mnemonic (Store kind rs1 rs2 imm) = by_funct3 stores kind
mnemonic (OpImm kind alt rd rs1 imm) = immediate_name kind alt
mnemonic (Op kind alt rd rs1 rs2) = register_name kind alt
mnemonic (MulDiv kind rd rs1 rs2) = by_funct3 products kind
mnemonic (Fence rd rs1 upper false) = codes "fence"
mnemonic (Fence rd rs1 upper true) = codes "fence.i"
mnemonic Ecall = codes "ecall"
mnemonic Ebreak = codes "ebreak"
mnemonic Mret = codes "mret"
mnemonic Wfi = codes "wfi"
mnemonic (Csr kind rd rs1 csr) = by_funct3 csr_forms kind

-- the mnemonics of the rows of the instruction table, in its order, as they make an instruction of a word
abbrev pub mnemonics : ℕ → List Text
mnemonics word = map (λ row. mnemonic (row.insn word)) table
