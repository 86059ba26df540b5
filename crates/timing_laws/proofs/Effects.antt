-- What the effect of an instruction is on the count of retired instructions, and on the output.
use Rattle.std.proofs.Common.{◌≡◌, ℕ, ◌+◌, if◌then◌else◌, is_some, Option, Some, None, List, [], ◌∷◌, length, length-append, refl, ap, arith}
use Rattle.fsim_base.specs.declared.cause.Cause.{Cause}
use Rattle.device_bus.specs.declared.undo.Note.{Note}
use Rattle.device_bus.specs.declared.undo.Note.TheVariants as note
use Rattle.mono_model.specs.Arch.{Arch, trapped}
use Rattle.mono_model.specs.Found.{Found}
use Rattle.mono_model.specs.Result.{Result}
use Rattle.mono_model.specs.Effect.{effect, effect_by, retired, note_of, with_note}
use Rattle.mono_model.specs.Sequence.{byte_in}
use Rattle.mono_model.proofs.Retired.{changed_retired}

-- without a cause
note_length : (what : Note) (output : List ℕ) → length (with_note what output) ≡ length output + (if is_some (byte_in what) then 1 else 0)
note_length note.Nothing output = omega arith
note_length (note.Out byte) output = omega (arith, length-append output (byte ∷ []))
note_length (note.End halt) output = omega arith

none_retired : (cause : Option Cause) (found : Found) (r : Result) (time : Option ℕ) (addr : ℕ) (a : Arch) → cause ≡ None →
    (effect_by cause found r time addr a).csrs.retired ≡ a.csrs.retired + 1
unfolding retired
none_retired None found r time addr a is = ap (λ (n : ℕ). n + 1) (changed_retired found time a)
none_retired (Some cause) found r time addr a is = cc

none_output : (cause : Option Cause) (found : Found) (r : Result) (time : Option ℕ) (addr : ℕ) (a : Arch) → cause ≡ None →
    length (effect_by cause found r time addr a).output ≡ length a.output + (if is_some (byte_in (note_of r a)) then 1 else 0)
unfolding retired
none_output None found r time addr a is = note_length (note_of r a) a.output
none_output (Some cause) found r time addr a is = cc

pub committed_retired : (found : Found) (r : Result) (time : Option ℕ) (addr : ℕ) (a : Arch) → r.cause ≡ None → (effect found r time addr a).csrs.retired ≡ a.csrs.retired + 1
unfolding effect
committed_retired found r time addr a is = none_retired r.cause found r time addr a is

pub committed_output : (found : Found) (r : Result) (time : Option ℕ) (addr : ℕ) (a : Arch) → r.cause ≡ None →
    length (effect found r time addr a).output ≡ length a.output + (if is_some (byte_in (note_of r a)) then 1 else 0)
unfolding effect
committed_output found r time addr a is = none_output r.cause found r time addr a is

-- with a cause: a trap retires nothing and sends nothing
some_retired : (cause : Option Cause) (why : Cause) (found : Found) (r : Result) (time : Option ℕ) (addr : ℕ) (a : Arch) → cause ≡ Some why →
    (effect_by cause found r time addr a).csrs.retired ≡ a.csrs.retired
unfolding trapped
some_retired None why found r time addr a is = cc
some_retired (Some cause) why found r time addr a is = refl

some_output : (cause : Option Cause) (why : Cause) (found : Found) (r : Result) (time : Option ℕ) (addr : ℕ) (a : Arch) → cause ≡ Some why →
    (effect_by cause found r time addr a).output ≡ a.output
unfolding trapped
some_output None why found r time addr a is = cc
some_output (Some cause) why found r time addr a is = refl

pub faulted_retired : (why : Cause) (found : Found) (r : Result) (time : Option ℕ) (addr : ℕ) (a : Arch) → r.cause ≡ Some why → (effect found r time addr a).csrs.retired ≡ a.csrs.retired
unfolding effect
faulted_retired why found r time addr a is = some_retired r.cause why found r time addr a is

pub faulted_output : (why : Cause) (found : Found) (r : Result) (time : Option ℕ) (addr : ℕ) (a : Arch) → r.cause ≡ Some why → (effect found r time addr a).output ≡ a.output
unfolding effect
faulted_output why found r time addr a is = some_output r.cause why found r time addr a is
