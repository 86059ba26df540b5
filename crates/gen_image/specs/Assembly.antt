-- The instructions of the programs by their assembly names, operands in the order of the assembly:
-- registers by their numbers, immediates in 32 bits (RISC-V unprivileged manual, its chapters on
-- RV32I, M and Zicsr; privileged manual, section 3.3).
use Rattle.std.specs.Prelude.{ℕ, ◌-◌, ◌*◌, ◌^◌, true, false}
use Rattle.rv_decode.specs.declared.insn.Insn.{Insn}
use Rattle.rv_decode.specs.declared.insn.Insn.TheVariants.{Lui, Auipc, Jal, Jalr, Branch, Load}
use Rattle.rv_decode.specs.declared.insn.Insn.TheVariants.{Store, OpImm, Op, MulDiv, Ecall, Mret}
use Rattle.rv_decode.specs.declared.insn.Insn.TheVariants.{Csr}

-- a negative immediate
abbrev pub minus : ℕ → ℕ
minus n = 2 ^ 32 - n

-- an immediate of the twenty upper bits
abbrev pub upper : ℕ → ℕ
upper n = n * 2 ^ 12

abbrev pub lui : ℕ → ℕ → Insn
lui rd imm = Lui rd imm

abbrev pub auipc : ℕ → ℕ → Insn
auipc rd imm = Auipc rd imm

abbrev pub addi : ℕ → ℕ → ℕ → Insn
addi rd rs1 imm = OpImm 0 false rd rs1 imm

abbrev pub andi : ℕ → ℕ → ℕ → Insn
andi rd rs1 imm = OpImm 7 false rd rs1 imm

abbrev pub add : ℕ → ℕ → ℕ → Insn
add rd rs1 rs2 = Op 0 false rd rs1 rs2

abbrev pub sub : ℕ → ℕ → ℕ → Insn
sub rd rs1 rs2 = Op 0 true rd rs1 rs2

abbrev pub sll : ℕ → ℕ → ℕ → Insn
sll rd rs1 rs2 = Op 1 false rd rs1 rs2

abbrev pub sltu : ℕ → ℕ → ℕ → Insn
sltu rd rs1 rs2 = Op 3 false rd rs1 rs2

abbrev pub xor : ℕ → ℕ → ℕ → Insn
xor rd rs1 rs2 = Op 4 false rd rs1 rs2

abbrev pub or : ℕ → ℕ → ℕ → Insn
or rd rs1 rs2 = Op 6 false rd rs1 rs2

abbrev pub mul : ℕ → ℕ → ℕ → Insn
mul rd rs1 rs2 = MulDiv 0 rd rs1 rs2

abbrev pub divu : ℕ → ℕ → ℕ → Insn
divu rd rs1 rs2 = MulDiv 5 rd rs1 rs2

-- `lw rd, imm(rs1)` and `sw rs2, imm(rs1)`
abbrev pub lw : ℕ → ℕ → ℕ → Insn
lw rd imm rs1 = Load 2 rd rs1 imm

abbrev pub sw : ℕ → ℕ → ℕ → Insn
sw rs2 imm rs1 = Store 2 rs1 rs2 imm

abbrev pub bne : ℕ → ℕ → ℕ → Insn
bne rs1 rs2 imm = Branch 1 rs1 rs2 imm

abbrev pub blt : ℕ → ℕ → ℕ → Insn
blt rs1 rs2 imm = Branch 4 rs1 rs2 imm

abbrev pub jal : ℕ → ℕ → Insn
jal rd imm = Jal rd imm

-- `jalr rd, imm(rs1)`
abbrev pub jalr : ℕ → ℕ → ℕ → Insn
jalr rd imm rs1 = Jalr rd rs1 imm

abbrev pub csrrw : ℕ → ℕ → ℕ → Insn
csrrw rd csr rs1 = Csr 1 rd rs1 csr

abbrev pub csrrs : ℕ → ℕ → ℕ → Insn
csrrs rd csr rs1 = Csr 2 rd rs1 csr

abbrev pub csrrsi : ℕ → ℕ → ℕ → Insn
csrrsi rd csr imm = Csr 6 rd imm csr

abbrev pub ecall : Insn
ecall = Ecall

abbrev pub mret : Insn
mret = Mret

abbrev pub mstatus : ℕ
mstatus = 0x300

abbrev pub mie : ℕ
mie = 0x304

abbrev pub mtvec : ℕ
mtvec = 0x305

abbrev pub mepc : ℕ
mepc = 0x341

abbrev pub mcause : ℕ
mcause = 0x342
