-- The text of an instruction word: what GNU objdump 2.40 writes of it with `-M numeric,no-aliases`, but for this.
-- A space stands before the operands, and not a tab. The address that a jump or a branch leads to has all its eight
-- digits, and no `0x`. A word that is no instruction of this machine is `.word` and all its digits. A FENCE is written by
-- its bits 27 to 20 alone, and an empty set of accesses is `0`, and not `unknown`; each FENCE.I is `fence.i`. A CSR that
-- is not in the table of CSRs is a number.
use Rattle.std.specs.Prelude.{ℕ, ◌/◌, ◌^◌, ◌==◌, ◌||◌, nat_lt, if◌then◌else◌, true, false, List, [], ◌∷◌, ◌++◌, codes, decimal, unwrap_or}
use Rattle.std.specs.Int.{bit_at}
use Rattle.std.specs.List.{join_with_byte}
use Rattle.std.specs.Option.{option_map_or}
use Rattle.fsim_base.specs.Number.{bits_of, wrap_sum}
use Rattle.rv_decode.specs.declared.insn.Insn.{Insn}
use Rattle.rv_decode.specs.declared.insn.Insn.TheVariants.{Lui, Auipc, Jal, Jalr, Branch, Load, Store, OpImm, Op, MulDiv, Fence, Csr}
use Rattle.rv_decode.specs.Decode.{decode_of}
use Rattle.disassembly.specs.Number.{Text, hex, prefixed, signed}
use Rattle.disassembly.specs.Mnemonic.{mnemonic}
use Rattle.disassembly.specs.CsrName.{name_at}

abbrev pub register : ℕ → Text
register number = codes "x" ++ decimal number

-- the offset and the register that it is added to
abbrev pub based : ℕ → ℕ → Text
based imm rs1 = signed imm ++ codes "(" ++ register rs1 ++ codes ")"

-- the address that a jump or branch leads to
abbrev pub target : ℕ → ℕ → Text
target addr imm = hex 8 (wrap_sum addr imm)

-- which accesses a FENCE orders: input, output, reads, writes
abbrev pub letter : ℕ → ℕ → Text → Text
letter set place name = if bit_at set place == 1 then name else []

unfoldable pub accesses : ℕ → Text
accesses set =
    if set == 0
    then codes "0"
    else letter set 3 (codes "i") ++ letter set 2 (codes "o") ++ letter set 1 (codes "r") ++ letter set 0 (codes "w")

abbrev pub csr_text : ℕ → Text
csr_text csr = unwrap_or (name_at csr) (prefixed csr)

-- the amount of a shift (funct3 1 and 5), or an immediate
abbrev pub immediate_text : ℕ → ℕ → Text
immediate_text kind imm = if kind == 1 || kind == 5 then prefixed imm else signed imm

-- the source of a CSR instruction: a register, or in the immediate forms a number
abbrev pub source_text : ℕ → ℕ → Text
source_text kind rs1 = if nat_lt kind 4 then register rs1 else decimal rs1

-- The operands of an instruction at an address.
unfoldable pub operands : ℕ → Insn → List Text
operands addr (Lui rd imm) = register rd ∷ prefixed (imm / 2 ^ 12) ∷ []
operands addr (Auipc rd imm) = register rd ∷ prefixed (imm / 2 ^ 12) ∷ []
operands addr (Jal rd imm) = register rd ∷ target addr imm ∷ []
operands addr (Jalr rd rs1 imm) = register rd ∷ based imm rs1 ∷ []
operands addr (Branch kind rs1 rs2 imm) = register rs1 ∷ register rs2 ∷ target addr imm ∷ []
operands addr (Load kind rd rs1 imm) = register rd ∷ based imm rs1 ∷ []
operands addr (Store kind rs1 rs2 imm) = register rs2 ∷ based imm rs1 ∷ []
operands addr (OpImm kind alt rd rs1 imm) = register rd ∷ register rs1 ∷ immediate_text kind imm ∷ []
operands addr (Op kind alt rd rs1 rs2) = register rd ∷ register rs1 ∷ register rs2 ∷ []
operands addr (MulDiv kind rd rs1 rs2) = register rd ∷ register rs1 ∷ register rs2 ∷ []
operands addr (Fence rd rs1 upper false) = accesses (bits_of upper 7 4) ∷ accesses (bits_of upper 3 0) ∷ []
operands addr (Csr kind rd rs1 csr) = register rd ∷ csr_text csr ∷ source_text kind rs1 ∷ []
operands addr _ = []

-- operands stand after a space, with commas between them
abbrev pub after_space : List Text → Text
after_space [] = []
after_space (first ∷ rest) = codes " " ++ join_with_byte 44 (first ∷ rest)

abbrev pub with_operands : Text → List Text → Text
with_operands name texts = name ++ after_space texts

-- The text of an instruction at an address.
abbrev pub insn_text : ℕ → Insn → Text
insn_text addr insn = with_operands (mnemonic insn) (operands addr insn)

-- The text of a word at an address; a word that is no instruction is written as a number.
unfoldable pub word_text : ℕ → ℕ → Text
word_text addr word = option_map_or (insn_text addr) (decode_of word) (codes ".word 0x" ++ hex 8 word)

-- What counts of an instruction: of a FENCE its two sets of accesses, of a FENCE.I no field, of all others each.
abbrev pub what_counts : Insn → Insn
what_counts (Fence rd rs1 upper false) = Fence 0 0 (bits_of upper 7 0) false
what_counts (Fence rd rs1 upper true) = Fence 0 0 0 true
what_counts insn = insn
