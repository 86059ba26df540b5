-- What an instruction does with its operands, but for its part in memory and the CSRs
-- (RISC-V unprivileged manual, chapter 2 and "M"; privileged manual, section 3.3.1, for ECALL and EBREAK).
use Rattle.std.specs.Prelude.{ℕ, ◌/◌, ◌*◌, Bool, Option, Some, None, if◌then◌else◌}
use Rattle.fsim_base.specs.Number.{wrap_sum}
use Rattle.fsim_base.specs.Width.{is_aligned}
use Rattle.fsim_base.specs.declared.access.Width.{Width}
use Rattle.fsim_base.specs.declared.access.Width.TheVariants.{Word}
use Rattle.fsim_base.specs.declared.cause.Cause.{Cause}
use Rattle.fsim_base.specs.declared.cause.Cause.TheVariants.{InstructionMisaligned, Breakpoint, LoadMisaligned, StoreMisaligned, EnvironmentCall}
use Rattle.rv_decode.specs.declared.insn.Insn.{Insn}
use Rattle.rv_decode.specs.declared.insn.Insn.TheVariants as insn
use Rattle.rv_exec.specs.declared.outcome.Outcome.{Outcome}
use Rattle.rv_exec.specs.declared.outcome.Reach.TheVariants.{Nothing, Load, Store}
use Rattle.rv_exec.specs.Alu.{alu_value}
use Rattle.rv_exec.specs.MulDiv.{muldiv_value}
use Rattle.rv_exec.specs.Branch.{branch_taken}
use Rattle.rv_exec.specs.Load.{load_width, load_extends_sign, store_width, low_bytes}

-- no cause where the address is aligned, else this one with the address as mtval
abbrev pub misalignment : Cause → ℕ → Width → Option (Cause × ℕ)
misalignment misaligned target width = if is_aligned target width then None else Some (misaligned, target)

-- a value, and on to the next word
abbrev pub computed : ℕ → ℕ → Outcome
computed addr result = record { value = result; next = wrap_sum addr 4; reach = Nothing; cause = None }

-- a trap with mtval 0
abbrev pub raised : ℕ → Cause → Outcome
raised addr exception = record (computed addr 0) { cause = Some (exception, 0) }

-- on to the target; a misaligned one is not gone to, and is a trap of the instruction itself (section 2.5)
abbrev pub redirected : ℕ → ℕ → Outcome
redirected addr target = record (computed addr 0) {
  next = if is_aligned target Word then target else wrap_sum addr 4;
  cause = misalignment InstructionMisaligned target Word;
}

-- the value of a jump is the address behind it (section 2.5.1)
abbrev pub jumped : ℕ → ℕ → Outcome
jumped addr target = record (redirected addr target) { value = wrap_sum addr 4 }

abbrev pub branched : ℕ → Bool → ℕ → Outcome
branched addr taken target = if taken then redirected addr target else computed addr 0

-- a misaligned access is told as it was attempted
abbrev pub loaded : ℕ → ℕ → Width → Bool → Outcome
loaded addr target width extends_sign = record (computed addr 0) {
  reach = Load target width extends_sign;
  cause = misalignment LoadMisaligned target width;
}

-- what is stored are the register's low bytes
abbrev pub stored : ℕ → ℕ → Width → ℕ → Outcome
stored addr target width datum = record (computed addr 0) {
  reach = Store target width (low_bytes datum width);
  cause = misalignment StoreMisaligned target width;
}

-- the instruction at an address, where a and b are the values of rs1 and rs2
unfoldable pub eval_of : Insn → ℕ → ℕ → ℕ → Outcome
eval_of (insn.Lui rd imm) addr a b = computed addr imm
eval_of (insn.Auipc rd imm) addr a b = computed addr (wrap_sum addr imm)
eval_of (insn.Jal rd imm) addr a b = jumped addr (wrap_sum addr imm)
eval_of (insn.Jalr rd rs1 imm) addr a b = jumped addr (wrap_sum a imm / 2 * 2)
eval_of (insn.Branch kind rs1 rs2 imm) addr a b = branched addr (branch_taken kind a b) (wrap_sum addr imm)
eval_of (insn.Load kind rd rs1 imm) addr a b = loaded addr (wrap_sum a imm) (load_width kind) (load_extends_sign kind)
eval_of (insn.Store kind rs1 rs2 imm) addr a b = stored addr (wrap_sum a imm) (store_width kind) b
eval_of (insn.OpImm kind alt rd rs1 imm) addr a b = computed addr (alu_value kind alt a imm)
eval_of (insn.Op kind alt rd rs1 rs2) addr a b = computed addr (alu_value kind alt a b)
eval_of (insn.MulDiv kind rd rs1 rs2) addr a b = computed addr (muldiv_value kind a b)
eval_of insn.Ecall addr a b = raised addr EnvironmentCall
eval_of insn.Ebreak addr a b = raised addr Breakpoint
eval_of (insn.Fence rd rs1 upper fetch) addr a b = computed addr 0
eval_of insn.Wfi addr a b = computed addr 0
eval_of insn.Mret addr a b = computed addr 0
eval_of (insn.Csr kind rd rs1 csr) addr a b = computed addr 0
