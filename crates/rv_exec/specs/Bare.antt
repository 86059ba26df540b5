-- Instructions that only compute, without their registers.
use Rattle.std.specs.Prelude.{ℕ, true, false, Option, Some, None, if◌then◌else◌}
use Rattle.rv_decode.specs.declared.insn.Insn.{Insn}
use Rattle.rv_decode.specs.declared.insn.Insn.TheVariants as insn
use Rattle.rv_exec.specs.declared.bare.BareInsn.{BareInsn}
use Rattle.rv_exec.specs.declared.bare.Operation.{Operation}
use Rattle.rv_exec.specs.declared.bare.Operation.TheVariants as op

-- An instruction with its registers left out, where it only computes: none where it reaches memory or a control and status
-- register, traps by itself, returns from a trap, or lets fetch see memory. FENCE does here what WFI does: nothing.
abbrev pub bare_of : Insn → Option Insn
bare_of (insn.Lui rd imm) = Some (insn.Lui 0 imm)
bare_of (insn.Auipc rd imm) = Some (insn.Auipc 0 imm)
bare_of (insn.Jal rd imm) = Some (insn.Jal 0 imm)
bare_of (insn.Jalr rd rs1 imm) = Some (insn.Jalr 0 0 imm)
bare_of (insn.Branch kind rs1 rs2 imm) = Some (insn.Branch kind 0 0 imm)
bare_of (insn.OpImm kind alt rd rs1 imm) = Some (insn.OpImm kind alt 0 0 imm)
bare_of (insn.Op kind alt rd rs1 rs2) = Some (insn.Op kind alt 0 0 0)
bare_of (insn.MulDiv kind rd rs1 rs2) = Some (insn.MulDiv kind 0 0 0)
bare_of (insn.Fence rd rs1 upper fetch) = if fetch then None else Some insn.Wfi
bare_of insn.Wfi = Some insn.Wfi
bare_of _ = None

-- the instruction that an operation with an immediate names, its registers left out
abbrev pub insn_of : Operation → ℕ → Option Insn
insn_of op.Nothing imm = Some insn.Wfi
insn_of op.Lui imm = Some (insn.Lui 0 imm)
insn_of op.Auipc imm = Some (insn.Auipc 0 imm)
insn_of op.Jal imm = Some (insn.Jal 0 imm)
insn_of op.Jalr imm = Some (insn.Jalr 0 0 imm)
insn_of op.Beq imm = Some (insn.Branch 0 0 0 imm)
insn_of op.Bne imm = Some (insn.Branch 1 0 0 imm)
insn_of op.Blt imm = Some (insn.Branch 4 0 0 imm)
insn_of op.Bge imm = Some (insn.Branch 5 0 0 imm)
insn_of op.Bltu imm = Some (insn.Branch 6 0 0 imm)
insn_of op.Bgeu imm = Some (insn.Branch 7 0 0 imm)
insn_of op.AddImm imm = Some (insn.OpImm 0 false 0 0 imm)
insn_of op.SllImm imm = Some (insn.OpImm 1 false 0 0 imm)
insn_of op.SltImm imm = Some (insn.OpImm 2 false 0 0 imm)
insn_of op.SltuImm imm = Some (insn.OpImm 3 false 0 0 imm)
insn_of op.XorImm imm = Some (insn.OpImm 4 false 0 0 imm)
insn_of op.SrlImm imm = Some (insn.OpImm 5 false 0 0 imm)
insn_of op.SraImm imm = Some (insn.OpImm 5 true 0 0 imm)
insn_of op.OrImm imm = Some (insn.OpImm 6 false 0 0 imm)
insn_of op.AndImm imm = Some (insn.OpImm 7 false 0 0 imm)
insn_of op.Add imm = Some (insn.Op 0 false 0 0 0)
insn_of op.Sub imm = Some (insn.Op 0 true 0 0 0)
insn_of op.Sll imm = Some (insn.Op 1 false 0 0 0)
insn_of op.Slt imm = Some (insn.Op 2 false 0 0 0)
insn_of op.Sltu imm = Some (insn.Op 3 false 0 0 0)
insn_of op.Xor imm = Some (insn.Op 4 false 0 0 0)
insn_of op.Srl imm = Some (insn.Op 5 false 0 0 0)
insn_of op.Sra imm = Some (insn.Op 5 true 0 0 0)
insn_of op.Or imm = Some (insn.Op 6 false 0 0 0)
insn_of op.And imm = Some (insn.Op 7 false 0 0 0)
insn_of op.Mul imm = Some (insn.MulDiv 0 0 0 0)
insn_of op.Mulh imm = Some (insn.MulDiv 1 0 0 0)
insn_of op.Mulhsu imm = Some (insn.MulDiv 2 0 0 0)
insn_of op.Mulhu imm = Some (insn.MulDiv 3 0 0 0)
insn_of op.Div imm = Some (insn.MulDiv 4 0 0 0)
insn_of op.Divu imm = Some (insn.MulDiv 5 0 0 0)
insn_of op.Rem imm = Some (insn.MulDiv 6 0 0 0)
insn_of op.Remu imm = Some (insn.MulDiv 7 0 0 0)
insn_of op.Other imm = None

abbrev pub insn_in : BareInsn → Option Insn
insn_in bare = insn_of bare.operation bare.imm
