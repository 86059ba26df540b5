-- What evaluation tells of an instruction's access and destination.
use Rattle.std.proofs.Common.{◌≡◌, ℕ, ◌%◌, ◌==◌, Bool, true, false, if◌then◌else◌, Option, Some, None, unwrap_or, refl, sym, subst, ◌∙◌, arith}
use Rattle.std.proofs.lemmas.Grind.{common_steps}
use Rattle.fsim_base.specs.declared.access.Width.{Width}
use Rattle.fsim_base.specs.Width.{width_bytes}
use Rattle.fsim_base.specs.declared.cause.Cause.{Cause}
use Rattle.rv_decode.specs.declared.insn.Insn.{Insn}
use Rattle.rv_decode.specs.declared.insn.Insn.TheVariants as insn
use Rattle.rv_decode.specs.Class.{sources_of, dest_of}
use Rattle.rv_exec.specs.declared.outcome.Outcome.{Outcome}
use Rattle.rv_exec.specs.declared.outcome.Reach.{Reach}
use Rattle.rv_exec.specs.declared.outcome.Reach.TheVariants as reach
use Rattle.rv_exec.specs.Eval.{eval_of, branched}
use Rattle.rv_exec.specs.Branch.{branch_taken}
use Rattle.fsim_base.specs.Number.{wrap_sum}
use Rattle.machine_csr.specs.Csr.{reads_time_of}
use Rattle.mono_model.specs.Found.{known, is_csr_insn, is_mret_insn, is_fence_i}
use Rattle.func_model.specs.Steps.{AlignedBy, IsAlignedReach, is_load, is_store, outcome_at}

aligned_zero : (n : ℕ) → (n == 0) ≡ true → n ≡ 0
aligned_zero n is = grind (arith, common_steps)

nothing_aligned : (cause : Option (Cause × ℕ)) → AlignedBy cause reach.Nothing
nothing_aligned None = tt
nothing_aligned (Some why) = tt

by_test : (aligned : Bool) (why : Cause × ℕ) (what : Reach) → (aligned ≡ true → IsAlignedReach what) → AlignedBy (if aligned then None else Some why) what
by_test true why what holds = holds refl
by_test false why what holds = tt

-- an access without a cause is aligned
outcome_aligned : (i : Insn) (addr a b : ℕ) → AlignedBy (eval_of i addr a b).cause (eval_of i addr a b).reach
unfolding eval_of
outcome_aligned (insn.Lui rd imm) addr a b = tt
outcome_aligned (insn.Auipc rd imm) addr a b = tt
outcome_aligned (insn.Jal rd imm) addr a b = nothing_aligned (eval_of (insn.Jal rd imm) addr a b).cause
outcome_aligned (insn.Jalr rd rs1 imm) addr a b = nothing_aligned (eval_of (insn.Jalr rd rs1 imm) addr a b).cause
outcome_aligned (insn.Branch kind rs1 rs2 imm) addr a b = grind (arith, nothing_aligned)
outcome_aligned (insn.Load kind rd rs1 imm) addr a b = by_test _ _ _ (λ is. aligned_zero _ is)
outcome_aligned (insn.Store kind rs1 rs2 imm) addr a b = by_test _ _ _ (λ is. aligned_zero _ is)
outcome_aligned (insn.OpImm kind alt rd rs1 imm) addr a b = tt
outcome_aligned (insn.Op kind alt rd rs1 rs2) addr a b = tt
outcome_aligned (insn.MulDiv kind rd rs1 rs2) addr a b = tt
outcome_aligned (insn.Fence rd rs1 upper fetch) addr a b = tt
outcome_aligned insn.Ecall addr a b = tt
outcome_aligned insn.Ebreak addr a b = tt
outcome_aligned insn.Mret addr a b = tt
outcome_aligned insn.Wfi addr a b = tt
outcome_aligned (insn.Csr kind rd rs1 csr) addr a b = tt

-- the same of what the code computed
pub aligned_by : (o : Outcome) (i : Insn) (addr a b : ℕ) → o ≡ eval_of i addr a b → AlignedBy o.cause o.reach
aligned_by o i addr a b is =
    let P : Outcome → Type 0 = λ x. AlignedBy x.cause x.reach in
    subst P (sym is) (outcome_aligned i addr a b)

-- so a load or store is aligned that doesn't trap
pub load_aligned : (o : Outcome) (addr : ℕ) (width : Width) (signed : Bool) → o.cause ≡ None → o.reach ≡ reach.Load addr width signed → AlignedBy o.cause o.reach → addr % width_bytes width ≡ 0
load_aligned o addr width signed none there aligned = rw (none, there) at aligned

pub store_aligned : (o : Outcome) (addr : ℕ) (width : Width) (value : ℕ) → o.cause ≡ None → o.reach ≡ reach.Store addr width value → AlignedBy o.cause o.reach → addr % width_bytes width ≡ 0
store_aligned o addr width value none there aligned = rw (none, there) at aligned

-- a store writes no register
abbrev pub NoDestination : Option ℕ → Reach → Type 0
NoDestination destination reach.Nothing = Unit {0}
NoDestination destination (reach.Load addr width signed) = Unit {0}
NoDestination destination (reach.Store addr width value) = destination ≡ None

branches_reach_nothing : (addr : ℕ) (taken : Bool) (target : ℕ) → NoDestination None (branched addr taken target).reach
branches_reach_nothing addr true target = tt
branches_reach_nothing addr false target = tt

pub stores_write_none : (i : Insn) (addr a b : ℕ) → NoDestination (dest_of i) (eval_of i addr a b).reach
unfolding eval_of
stores_write_none (insn.Lui rd imm) addr a b = tt
stores_write_none (insn.Auipc rd imm) addr a b = tt
stores_write_none (insn.Jal rd imm) addr a b = tt
stores_write_none (insn.Jalr rd rs1 imm) addr a b = tt
stores_write_none (insn.Branch kind rs1 rs2 imm) addr a b = branches_reach_nothing addr (branch_taken kind a b) (wrap_sum addr imm)
stores_write_none (insn.Load kind rd rs1 imm) addr a b = tt
stores_write_none (insn.Store kind rs1 rs2 imm) addr a b = refl
stores_write_none (insn.OpImm kind alt rd rs1 imm) addr a b = tt
stores_write_none (insn.Op kind alt rd rs1 rs2) addr a b = tt
stores_write_none (insn.MulDiv kind rd rs1 rs2) addr a b = tt
stores_write_none (insn.Fence rd rs1 upper fetch) addr a b = tt
stores_write_none insn.Ecall addr a b = tt
stores_write_none insn.Ebreak addr a b = tt
stores_write_none insn.Mret addr a b = tt
stores_write_none insn.Wfi addr a b = tt
stores_write_none (insn.Csr kind rd rs1 csr) addr a b = tt

-- a load or a store is nothing else
pub load_no_csr : (i : Insn) → is_load i ≡ true → is_csr_insn i ≡ false
load_no_csr (insn.Csr kind rd rs1 csr) is = cc
load_no_csr i is = refl

pub load_no_mret : (i : Insn) → is_load i ≡ true → is_mret_insn i ≡ false
load_no_mret insn.Mret is = cc
load_no_mret i is = refl

pub store_no_csr : (i : Insn) → is_store i ≡ true → is_csr_insn i ≡ false
store_no_csr (insn.Csr kind rd rs1 csr) is = cc
store_no_csr i is = refl

pub store_no_mret : (i : Insn) → is_store i ≡ true → is_mret_insn i ≡ false
store_no_mret insn.Mret is = cc
store_no_mret i is = refl

pub store_no_time : (i : Insn) → is_store i ≡ true → reads_time_of i ≡ false
unfolding reads_time_of
store_no_time (insn.Csr kind rd rs1 csr) is = cc
store_no_time i is = refl

-- neither is a FENCE.I
pub load_no_fence : (word : ℕ) (i : Insn) → is_load i ≡ true → is_fence_i (known word i) ≡ false
load_no_fence word (insn.Fence rd rs1 upper fetch) is = cc
load_no_fence word i is = refl

pub store_no_fence : (word : ℕ) (i : Insn) → is_store i ≡ true → is_fence_i (known word i) ≡ false
store_no_fence word (insn.Fence rd rs1 upper fetch) is = cc
store_no_fence word i is = refl

-- nor does a store write a register
pub store_no_register : (i : Insn) → is_store i ≡ true → dest_of i ≡ None
store_no_register (insn.Store kind rs1 rs2 imm) is = refl
store_no_register i is = cc

-- a register that isn't read doesn't matter
read_alone : (i : Insn) (addr : ℕ) (regs : ℕ → ℕ) →
    eval_of i addr (regs (unwrap_or (sources_of i).0 0)) (regs (unwrap_or (sources_of i).1 0)) ≡ outcome_at i addr regs
unfolding eval_of
read_alone (insn.Lui rd imm) addr regs = refl
read_alone (insn.Auipc rd imm) addr regs = refl
read_alone (insn.Jal rd imm) addr regs = refl
read_alone (insn.Jalr rd rs1 imm) addr regs = refl
read_alone (insn.Branch kind rs1 rs2 imm) addr regs = refl
read_alone (insn.Load kind rd rs1 imm) addr regs = refl
read_alone (insn.Store kind rs1 rs2 imm) addr regs = refl
read_alone (insn.OpImm kind alt rd rs1 imm) addr regs = refl
read_alone (insn.Op kind alt rd rs1 rs2) addr regs = refl
read_alone (insn.MulDiv kind rd rs1 rs2) addr regs = refl
read_alone (insn.Fence rd rs1 upper fetch) addr regs = refl
read_alone insn.Ecall addr regs = refl
read_alone insn.Ebreak addr regs = refl
read_alone insn.Mret addr regs = refl
read_alone insn.Wfi addr regs = refl
read_alone (insn.Csr kind rd rs1 csr) addr regs = refl

-- the outcome by the registers that are kept with an instruction
pub read_outcome : (o : Outcome) (i : Insn) (addr first second : ℕ) (regs : ℕ → ℕ) → first ≡ unwrap_or (sources_of i).0 0 → second ≡ unwrap_or (sources_of i).1 0 →
    o ≡ eval_of i addr (regs first) (regs second) → o ≡ outcome_at i addr regs
read_outcome o i addr first second regs first_is second_is is =
    is ∙ (λ j. eval_of i addr (regs (first_is j)) (regs (second_is j))) ∙ read_alone i addr regs
