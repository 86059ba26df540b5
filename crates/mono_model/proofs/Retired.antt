-- What an instruction makes of the CSRs leaves the count of retired instructions.
use Rattle.std.proofs.Common.{◌≡◌, ℕ, Bool, true, false, if◌then◌else◌, Option, Some, None, refl}
use Rattle.machine_csr.specs.declared.csrs.Csrs.{Csrs}
use Rattle.machine_csr.specs.declared.csrs.CsrWrite.{CsrWrite}
use Rattle.machine_csr.specs.Trap.{trap_left}
use Rattle.machine_csr.proofs.Retired.{written_retired}
use Rattle.mono_model.specs.Arch.{Arch}
use Rattle.mono_model.specs.Found.{Found, refused, unknown, known, is_csr_insn, is_mret_insn}
use Rattle.mono_model.specs.Effect.{csr_change, changed_csrs}

change_retired : (given : Option (ℕ × CsrWrite)) (csrs : Csrs) → (csr_change given csrs).retired ≡ csrs.retired
change_retired None csrs = refl
change_retired (Some made) csrs = written_retired made.1 csrs

if_retired : (b : Bool) (x y : Csrs) (n : ℕ) → x.retired ≡ n → y.retired ≡ n → (if◌then◌else◌ {A = Csrs} b x y).retired ≡ n
if_retired true x y n first second = first
if_retired false x y n first second = second

pub changed_retired : (found : Found) (time : Option ℕ) (a : Arch) → (changed_csrs found time a).retired ≡ a.csrs.retired
changed_retired (refused cause) time a = refl
changed_retired (unknown word) time a = refl
changed_retired (known word i) time a =
    if_retired (is_csr_insn i) _ _ a.csrs.retired (change_retired _ a.csrs) (if_retired (is_mret_insn i) (trap_left a.csrs) a.csrs a.csrs.retired refl refl)
