-- The effect of a CSR instruction and of MRET.
use Rattle.std.proofs.Common.{◌≡◌, ℕ, true, Option, Some, None, unwrap_or, refl, ap, sym, subst, ◌∙◌}
use Rattle.fsim_base.specs.declared.access.RamRange.{RamRange}
use Rattle.rv_decode.specs.declared.insn.Insn.{Insn}
use Rattle.rv_decode.specs.declared.insn.Insn.TheVariants as insn
use Rattle.rv_decode.specs.Class.{sources_of}
use Rattle.rv_exec.specs.Eval.{eval_of}
use Rattle.machine_csr.specs.declared.csrs.CsrWrite.{CsrWrite}
use Rattle.machine_csr.specs.Csr.{csr_access}
use Rattle.machine_csr.specs.Trap.{return_address}
use Rattle.fsim_base.specs.declared.access.Access.TheVariants as access
use Rattle.fsim_base.specs.Cause.{cause_number}
use Rattle.fsim_base.specs.declared.cause.Cause.TheVariants.{IllegalInstruction}
use Rattle.fsim_base.specs.declared.cause.Cause.{Cause}
use Rattle.mono_model.specs.Arch.{Arch, register_value, compare_of, trapped}
use Rattle.mono_model.specs.Found.{refused, unknown, known, is_csr_insn, is_mret_insn}
use Rattle.mono_model.specs.Result.{executed, csr_result, failing, resulting}
use Rattle.mono_model.specs.Effect.{effect, retired}
use Rattle.mono_model.proofs.Found.{csr_is, mret_is}
use Rattle.func_model.specs.Steps.{behind, result_of, csr_made, mret_made}

by_access : (limit word kind rd rs1 csr : ℕ) (time : Option ℕ) (given : Option (ℕ × CsrWrite)) (a : Arch) →
    given ≡ csr_access a.csrs (insn.Csr kind rd rs1 csr) (register_value a.regs (sources_of (insn.Csr kind rd rs1 csr)).0) (unwrap_or time 0) (compare_of a.devices) →
    behind limit (known word (insn.Csr kind rd rs1 csr)) (csr_result word (insn.Csr kind rd rs1 csr) a.pc time given) time a ≡ csr_made word (insn.Csr kind rd rs1 csr) time given a
unfolding effect retired
by_access limit word kind rd rs1 csr time None a is = refl
by_access limit word kind rd rs1 csr time (Some made) a is = rw (← is) refl

-- what the code reads of the CSRs
abbrev pub accessed : Insn → Option ℕ → Arch → Option (ℕ × CsrWrite)
accessed i time a = csr_access a.csrs i (register_value a.regs (sources_of i).0) (unwrap_or time 0) (compare_of a.devices)

pub csr_behind : (range : RamRange) (limit word : ℕ) (i : Insn) (time : Option ℕ) (a : Arch) → is_csr_insn i ≡ true →
    behind limit (known word i) (result_of range (known word i) time a) time a ≡ csr_made word i time (accessed i time a) a
unfolding executed eval_of
csr_behind range limit word i time a is =
    let h = csr_is i is in
    let P : Insn → Type 0 = λ k. behind limit (known word k) (result_of range (known word k) time a) time a ≡ csr_made word k time (accessed k time a) a in
    subst P (sym h.is) (by_access limit word h.kind h.rd h.rs1 h.csr time (accessed (insn.Csr h.kind h.rd h.rs1 h.csr) time a) a refl)

pub csr_result_of : (range : RamRange) (word : ℕ) (i : Insn) (time : Option ℕ) (a : Arch) → is_csr_insn i ≡ true → result_of range (known word i) time a ≡ csr_result word i a.pc time (accessed i time a)
unfolding executed eval_of
csr_result_of range word i time a is =
    let h = csr_is i is in
    let P : Insn → Type 0 = λ k. result_of range (known word k) time a ≡ csr_result word k a.pc time (accessed k time a) in
    subst P (sym h.is) refl

-- the same of what the code read of registers and devices
pub csr_result_by : (range : RamRange) (word : ℕ) (i : Insn) (x cmp : ℕ) (time : Option ℕ) (a : Arch) → is_csr_insn i ≡ true → x ≡ register_value a.regs (sources_of i).0 → cmp ≡ compare_of a.devices →
    csr_result word i a.pc time (csr_access a.csrs i x (unwrap_or time 0) cmp) ≡ result_of range (known word i) time a
csr_result_by range word i x cmp time a is source compared =
    ap (λ (v : ℕ). csr_result word i a.pc time (csr_access a.csrs i v (unwrap_or time 0) cmp)) source
    ∙ ap (λ (c : ℕ). csr_result word i a.pc time (csr_access a.csrs i (register_value a.regs (sources_of i).0) (unwrap_or time 0) c)) compared
    ∙ sym (csr_result_of range word i time a is)

pub csr_behind_by : (range : RamRange) (limit word : ℕ) (i : Insn) (x cmp : ℕ) (time : Option ℕ) (a b : Arch) → is_csr_insn i ≡ true → x ≡ register_value a.regs (sources_of i).0 → cmp ≡ compare_of a.devices →
    b ≡ csr_made word i time (csr_access a.csrs i x (unwrap_or time 0) cmp) a → b ≡ behind limit (known word i) (result_of range (known word i) time a) time a
csr_behind_by range limit word i x cmp time a b is source compared made =
    made
    ∙ ap (λ (v : ℕ). csr_made word i time (csr_access a.csrs i v (unwrap_or time 0) cmp) a) source
    ∙ ap (λ (c : ℕ). csr_made word i time (csr_access a.csrs i (register_value a.regs (sources_of i).0) (unwrap_or time 0) c) a) compared
    ∙ sym (csr_behind range limit word i time a is)

pub mret_behind : (range : RamRange) (limit word : ℕ) (i : Insn) (time : Option ℕ) (a : Arch) → is_mret_insn i ≡ true →
    behind limit (known word i) (result_of range (known word i) time a) time a ≡ mret_made a
unfolding executed eval_of effect retired
mret_behind range limit word i time a is =
    let P : Insn → Type 0 = λ k. behind limit (known word k) (result_of range (known word k) time a) time a ≡ mret_made a in
    subst P (sym (mret_is i is)) refl

pub mret_result_of : (range : RamRange) (word : ℕ) (i : Insn) (time : Option ℕ) (a : Arch) → is_mret_insn i ≡ true → result_of range (known word i) time a ≡ resulting 0 (return_address a.csrs) access.Nothing
unfolding executed eval_of
mret_result_of range word i time a is =
    let P : Insn → Type 0 = λ k. result_of range (known word k) time a ≡ resulting 0 (return_address a.csrs) access.Nothing in
    subst P (sym (mret_is i is)) refl

-- nothing that can be executed
pub refused_behind : (range : RamRange) (limit : ℕ) (time : Option ℕ) (cause : Cause) (a : Arch) →
    behind limit (refused cause) (result_of range (refused cause) time a) time a ≡ trapped (cause_number cause) a.pc a.pc a
unfolding executed effect
refused_behind range limit time cause a = refl

pub refused_result_of : (range : RamRange) (time : Option ℕ) (cause : Cause) (a : Arch) → result_of range (refused cause) time a ≡ failing a.pc cause a.pc
unfolding executed
refused_result_of range time cause a = refl

pub unknown_behind : (range : RamRange) (limit : ℕ) (time : Option ℕ) (word : ℕ) (a : Arch) →
    behind limit (unknown word) (result_of range (unknown word) time a) time a ≡ trapped 2 word a.pc a
unfolding executed effect
unknown_behind range limit time word a = refl

pub unknown_result_of : (range : RamRange) (time : Option ℕ) (word : ℕ) (a : Arch) → result_of range (unknown word) time a ≡ failing a.pc IllegalInstruction word
unfolding executed
unknown_result_of range time word a = refl
