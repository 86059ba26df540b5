-- Counts of a run, and how it ends.
use Rattle.std.proofs.Common.{◌≡◌, ℕ, ◌+◌, ◌≤◌, Bool, true, false, if◌then◌else◌, Option, Some, None, refl, ap, ◌∙◌, arith}
use Rattle.fsim_base.specs.declared.cause.Cause.{Cause}
use Rattle.mono_model.specs.Arch.{Arch, trapped}
use Rattle.mono_model.specs.Found.{Found}
use Rattle.mono_model.specs.Result.{Result}
use Rattle.mono_model.specs.Effect.{effect, effect_by, retired}
use Rattle.mono_model.specs.Alone.{count_cause}
use Rattle.mono_model.proofs.Retired.{changed_retired}
use Rattle.func_model.specs.Steps.{behind}

by_cause_retired : (cause : Option Cause) (found : Found) (r : Result) (time : Option ℕ) (addr : ℕ) (a : Arch) → (effect_by cause found r time addr a).csrs.retired + count_cause cause ≡ a.csrs.retired + 1
unfolding retired trapped
by_cause_retired None found r time addr a = ap (λ n. n + 1 + 0) (changed_retired found time a) ∙ omega arith
by_cause_retired (Some cause) found r time addr a = refl

pub effect_retired : (found : Found) (r : Result) (time : Option ℕ) (addr : ℕ) (a : Arch) → (effect found r time addr a).csrs.retired + count_cause r.cause ≡ a.csrs.retired + 1
unfolding effect
effect_retired found r time addr a = by_cause_retired r.cause found r time addr a

if_bound : (b : Bool) (x y : Arch) (n : ℕ) → x.csrs.retired ≤ n → y.csrs.retired ≤ n → (if◌then◌else◌ {A = Arch} b x y).csrs.retired ≤ n
if_bound true x y n p q = p
if_bound false x y n p q = q

pub behind_retired : (limit : ℕ) (found : Found) (r : Result) (time : Option ℕ) (a : Arch) → (behind limit found r time a).csrs.retired ≤ a.csrs.retired + 1
behind_retired limit found r time a = if_bound _ a (effect found r time a.pc a) (a.csrs.retired + 1) (omega arith) (omega (arith, effect_retired found r time a.pc a))
