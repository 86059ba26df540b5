-- What the parts of a pipeline must know of an instruction: the unit that it waits for, whether it may
-- jump, the registers that it reads and the one that it writes
-- (Hennessy and Patterson, Computer Architecture, section 3.6 "Hardware-Based Speculation").
use Rattle.std.specs.Prelude.{ℕ, ◌==◌, nat_lt, Option, Some, None, if◌then◌else◌}
use Rattle.fsim_base.specs.declared.instruction.Class.{Class}
use Rattle.fsim_base.specs.declared.instruction.Class.TheVariants as class
use Rattle.fsim_base.specs.declared.instruction.Flow.{Flow}
use Rattle.fsim_base.specs.declared.instruction.Flow.TheVariants as flow
use Rattle.rv_decode.specs.declared.insn.Insn.{Insn}
use Rattle.rv_decode.specs.declared.insn.Insn.TheVariants.{Lui, Auipc, Jal, Jalr, Branch, Load, Store, OpImm, Op, MulDiv, Mret, Csr}

abbrev pub class_of : Insn → Class
class_of (Load kind rd rs1 imm) = class.Load
class_of (Store kind rs1 rs2 imm) = class.Store
class_of (MulDiv kind rd rs1 rs2) = if nat_lt kind 4 then class.Mul else class.Div
class_of Mret = class.Serial
class_of (Csr kind rd rs1 csr) = class.Serial
class_of _ = class.Alu

abbrev pub flow_of : Insn → Flow
flow_of (Branch kind rs1 rs2 imm) = flow.Branch
flow_of (Jal rd imm) = flow.Jump
flow_of (Jalr rd rs1 imm) = flow.Jump
flow_of Mret = flow.Jump
flow_of _ = flow.Plain

-- The registers that an instruction reads, first rs1 and then rs2. x0 counts as one that is read.
abbrev pub sources_of : Insn → Option ℕ × Option ℕ
sources_of (Jalr rd rs1 imm) = (Some rs1, None)
sources_of (Branch kind rs1 rs2 imm) = (Some rs1, Some rs2)
sources_of (Load kind rd rs1 imm) = (Some rs1, None)
sources_of (Store kind rs1 rs2 imm) = (Some rs1, Some rs2)
sources_of (OpImm kind alt rd rs1 imm) = (Some rs1, None)
sources_of (Op kind alt rd rs1 rs2) = (Some rs1, Some rs2)
sources_of (MulDiv kind rd rs1 rs2) = (Some rs1, Some rs2)
-- CSRRW, CSRRS and CSRRC read rs1; the immediate forms have a number in its place
sources_of (Csr kind rd rs1 csr) = if nat_lt kind 4 then (Some rs1, None) else (None, None)
sources_of _ = (None, None)

-- the register that is written, where it is one: x0 is none
abbrev pub written : ℕ → Option ℕ
written rd = if rd == 0 then None else Some rd

-- The register that an instruction writes. FENCE and FENCE.I have a field rd and write none.
abbrev pub dest_of : Insn → Option ℕ
dest_of (Lui rd imm) = written rd
dest_of (Auipc rd imm) = written rd
dest_of (Jal rd imm) = written rd
dest_of (Jalr rd rs1 imm) = written rd
dest_of (Load kind rd rs1 imm) = written rd
dest_of (OpImm kind alt rd rs1 imm) = written rd
dest_of (Op kind alt rd rs1 rs2) = written rd
dest_of (MulDiv kind rd rs1 rs2) = written rd
dest_of (Csr kind rd rs1 csr) = written rd
dest_of _ = None
