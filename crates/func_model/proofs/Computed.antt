-- An instruction that changes at most a register and the next address, put together from its outcome.
use Rattle.std.proofs.Common.{◌≡◌, ℕ, ◌&&◌, Bool, true, false, not, if◌then◌else◌, Option, Some, None, is_none, refl, ap, ◌∙◌}
use Rattle.fsim_base.specs.declared.access.RamRange.{RamRange}
use Rattle.fsim_base.specs.declared.access.Access.TheVariants as access
use Rattle.fsim_base.specs.declared.access.Spot.TheVariants.{Ram}
use Rattle.fsim_base.specs.declared.access.Width.{Width}
use Rattle.fsim_base.specs.declared.cause.Cause.{Cause}
use Rattle.fsim_base.specs.Number.{wrap_sum}
use Rattle.rv_decode.specs.declared.insn.Insn.{Insn}
use Rattle.rv_decode.specs.declared.insn.Insn.TheVariants as insn
use Rattle.rv_decode.specs.Class.{dest_of, sources_of}
use Rattle.rv_exec.specs.declared.outcome.Outcome.{Outcome}
use Rattle.rv_exec.specs.declared.outcome.Reach.TheVariants as reach
use Rattle.rv_exec.specs.Eval.{eval_of, branched}
use Rattle.rv_exec.specs.Branch.{branch_taken}
use Rattle.machine_csr.specs.Csr.{reads_time_of}
use Rattle.undo_journal.specs.declared.past.Change.TheVariants.{Nothing}
use Rattle.mono_model.specs.Arch.{Arch, register_value}
use Rattle.mono_model.specs.Found.{known, is_csr_insn, is_mret_insn}
use Rattle.mono_model.specs.Result.{resulting, is_time_read, evaluated}
use Rattle.mono_model.specs.Sequence.{seen_in}
use Rattle.func_model.specs.Steps.{finished, plain_with, reaches_out, outcome_at, plain_outcome, result_of, behind, Told}
use Rattle.func_model.proofs.Concluded.{nothing_made, told_plain, told_same}
use Rattle.func_model.proofs.Effects.{evaluated_behind, evaluated_result}

-- what such an instruction isn't, and what its outcome is
pub record IsPlain (i : Insn) (addr : ℕ) (regs : ℕ → ℕ) (o : Outcome) : Type 0 where
  pub csr : is_csr_insn i ≡ false
  pub mret : is_mret_insn i ≡ false
  pub timeless : reads_time_of i ≡ false
  pub outcome : o ≡ outcome_at i addr regs
  pub cause : o.cause ≡ None
  pub reach : o.reach ≡ reach.Nothing

nothing_branched : (addr : ℕ) (taken : Bool) (target : ℕ) → (branched addr taken target).reach ≡ reach.Nothing
nothing_branched addr true target = refl
nothing_branched addr false target = refl

nothing_reached : (i : Insn) (addr x y : ℕ) → reaches_out i ≡ false → (eval_of i addr x y).reach ≡ reach.Nothing
unfolding eval_of
nothing_reached (insn.Branch kind rs1 rs2 imm) addr x y within = nothing_branched addr (branch_taken kind x y) (wrap_sum addr imm)
nothing_reached (insn.Load kind rd rs1 imm) addr x y within = cc
nothing_reached (insn.Store kind rs1 rs2 imm) addr x y within = cc
nothing_reached i addr x y within = refl

no_csr : (i : Insn) → reaches_out i ≡ false → is_csr_insn i ≡ false
no_csr (insn.Csr kind rd rs1 csr) within = cc
no_csr i within = refl

no_mret : (i : Insn) → reaches_out i ≡ false → is_mret_insn i ≡ false
no_mret insn.Mret within = cc
no_mret i within = refl

no_time : (i : Insn) → reaches_out i ≡ false → reads_time_of i ≡ false
unfolding reads_time_of
no_time (insn.Csr kind rd rs1 csr) within = cc
no_time i within = refl

-- by what the code tested
pub is_plain : (i : Insn) (addr : ℕ) (regs : ℕ → ℕ) (o : Outcome) → Some o ≡ plain_outcome i addr regs → IsPlain i addr regs o
is_plain i addr regs o given = by_test (reaches_out i) refl (outcome_at i addr regs) refl (outcome_at i addr regs).cause refl given
  where
    some_same : (x y : Outcome) → Some x ≡ Some y → x ≡ y
    some_same x y same = cc

    by_test : (out : Bool) → reaches_out i ≡ out → (e : Outcome) → e ≡ outcome_at i addr regs → (cause : Option (Cause × ℕ)) → e.cause ≡ cause →
        Some o ≡ (if not out && is_none cause then Some e else None) → IsPlain i addr regs o
    by_test true out_is e is cause cause_is same = cc
    by_test false out_is e is (Some why) cause_is same = cc
    by_test false out_is e is None cause_is same =
        let here : o ≡ e = some_same o e same in
        record {
          csr = no_csr i out_is;
          mret = no_mret i out_is;
          timeless = no_time i out_is;
          outcome = here ∙ is;
          cause = ap (λ (x : Outcome). x.cause) here ∙ cause_is;
          reach = ap (λ (x : Outcome). x.reach) (here ∙ is)
              ∙ nothing_reached i addr (register_value regs (sources_of i).0) (register_value regs (sources_of i).1) out_is;
        }

-- what it comes to
plain_result : (range : RamRange) (word : ℕ) (i : Insn) (time : Option ℕ) (o : Outcome) (a : Arch) → IsPlain i a.pc a.regs o →
    resulting o.value o.next access.Nothing ≡ result_of range (known word i) time a
plain_result range word i time o a plain =
    let same : resulting o.value o.next access.Nothing ≡ evaluated range (seen_in time a) o = rw (plain.cause, plain.reach) refl in
    same
    ∙ evaluated_result range word i (register_value a.regs (sources_of i).0) (register_value a.regs (sources_of i).1) time o a plain.csr plain.mret plain.outcome refl refl

-- what is told of it, and the state behind it, whatever its time and the room of the output
pub computed_told : (limit : ℕ) (time : Option ℕ) (range : RamRange) (word : ℕ) (i : Insn) (o : Outcome) (x : Arch) → IsPlain i x.pc x.regs o →
    Told limit (result_of range (known word i) time x) x (plain_with Nothing)
computed_told limit time range word i o x plain =
    told_same limit (resulting o.value o.next access.Nothing) (result_of range (known word i) time x) x (plain_with Nothing) (plain_result range word i time o x plain)
    (told_plain limit o.value o.next Nothing x (plain_with Nothing) refl)

pub computed_behind : (limit : ℕ) (time : Option ℕ) (range : RamRange) (word : ℕ) (i : Insn) (o : Outcome) (destination : Option ℕ) (x b : Arch) → IsPlain i x.pc x.regs o →
    destination ≡ dest_of i → b ≡ finished destination o.value o.next x → b ≡ behind limit (known word i) (result_of range (known word i) time x) time x
computed_behind limit time range word i o destination x b plain register made =
    evaluated_behind range limit word i (register_value x.regs (sources_of i).0) (register_value x.regs (sources_of i).1) time o destination x b plain.csr plain.mret plain.outcome register refl refl
    (nothing_made range limit destination o time x b plain.cause plain.reach made)

-- it reads no time
pub never_unserved : (word : ℕ) (i : Insn) (time : Option ℕ) → reads_time_of i ≡ false → false ≡ (is_time_read (known word i) access.Nothing && is_none time)
never_unserved word i time timeless = rw timeless refl

pub store_unserved : (word : ℕ) (i : Insn) (addr : ℕ) (width : Width) (time : Option ℕ) → reads_time_of i ≡ false →
    false ≡ (is_time_read (known word i) (access.Store addr width Ram) && is_none time)
store_unserved word i addr width time timeless = rw timeless refl
