-- The access of an instruction doesn't depend on what it sees beside its operands.
use Rattle.std.proofs.Common.{◌≡◌, ℕ, Bool, true, false, if◌then◌else◌, Option, Some, None, refl, sym, ◌∙◌}
use Rattle.fsim_base.specs.declared.access.Access.TheVariants as access
use Rattle.fsim_base.specs.declared.cause.Cause.{Cause}
use Rattle.fsim_base.specs.declared.access.RamRange.{RamRange}
use Rattle.rv_exec.specs.declared.outcome.Outcome.{Outcome}
use Rattle.rv_exec.specs.declared.outcome.Reach.{Reach}
use Rattle.rv_exec.specs.declared.outcome.Reach.TheVariants as reach
use Rattle.rv_exec.specs.Eval.{eval_of}
use Rattle.machine_csr.specs.Trap.{return_address}
use Rattle.mono_model.specs.Found.{Found, refused, unknown, known, is_csr_insn, is_mret_insn}
use Rattle.mono_model.specs.Result.{Seen, Result, executed, evaluated, by_cause, reached, resulting, csr_result, csr_read, spot_of, raw_at}
use Rattle.machine_laws.proofs.TimeReads.{csr_accesses, load_accesses}

module _ (range : RamRange) (e f : Seen) where
  reached_access : (o : Outcome) (what : Reach) → (reached range e o what).access ≡ (reached range f o what).access
  reached_access o reach.Nothing = refl
  reached_access o (reach.Load target width signed) =
      load_accesses o.next target width signed (spot_of range target width) (raw_at e target width (spot_of range target width))
      ∙ sym (load_accesses o.next target width signed (spot_of range target width) (raw_at f target width (spot_of range target width)))
  reached_access o (reach.Store target width value) = refl

  cause_access : (o : Outcome) (why : Option (Cause × ℕ)) → (by_cause range e o why).access ≡ (by_cause range f o why).access
  cause_access o None = reached_access o o.reach
  cause_access o (Some why) = refl

  pub executed_access : (found : Found) (addr x y : ℕ) → (executed range found addr x y e).access ≡ (executed range found addr x y f).access
  unfolding executed
  executed_access (refused cause) addr x y = refl
  executed_access (unknown word) addr x y = refl
  executed_access (known word i) addr x y = by_kind (is_csr_insn i) (is_mret_insn i)
    where
      made_by : Bool → Bool → Seen → Result
      made_by csr mret g =
          if csr then csr_result word i addr g.time (csr_read g i x)
          else (if mret then resulting 0 (return_address g.csrs) access.Nothing else evaluated range g (eval_of i addr x y))

      by_kind : (csr mret : Bool) → (made_by csr mret e).access ≡ (made_by csr mret f).access
      by_kind true mret = csr_accesses word i addr e.time (csr_read e i x) ∙ sym (csr_accesses word i addr f.time (csr_read f i x))
      by_kind false true = refl
      by_kind false false = cause_access (eval_of i addr x y) (eval_of i addr x y).cause
