-- The end of a store, by what it does outside its device.
use Rattle.std.proofs.Common.{◌≡◌, ℕ, Bool, false, nat_le, List, [], ◌∷◌, ◌++◌, length, Option, Some, None, is_some, refl, ap, sym, subst, ◌∙◌}
use Rattle.fsim_base.specs.declared.instruction.Halt.{Halt}
use Rattle.device_bus.specs.declared.undo.Note.{Note}
use Rattle.device_bus.specs.declared.undo.Note.TheVariants as note
use Rattle.mono_model.specs.Arch.{Arch}
use Rattle.fsim_base.specs.declared.access.RamRange.{RamRange}
use Rattle.rv_exec.specs.declared.outcome.Outcome.{Outcome}
use Rattle.rv_exec.specs.declared.outcome.Reach.TheVariants as reach
use Rattle.fsim_base.specs.declared.access.Width.{Width}
use Rattle.mono_model.specs.Result.{Seen, Result, spot_of, loaded_at, stored_at, resulting, failing_access, evaluated}
use Rattle.fsim_base.specs.declared.access.Access.{Access}
use Rattle.fsim_base.specs.declared.access.Access.TheVariants as access
use Rattle.fsim_base.specs.declared.cause.Cause.{Cause}
use Rattle.func_model.specs.declared.performed.Performed.{Performed}
use Rattle.machine_csr.specs.declared.csrs.Csrs.{Csrs}
use Rattle.undo_journal.specs.declared.past.Change.{Change}
use Rattle.func_model.specs.Steps.{finished, concluded, load_made, store_made, outcome_made, plain_with, failed_with, Told}

pub conclude_nothing : (limit next : ℕ) (what : Note) (a b : Arch) → what ≡ note.Nothing → b ≡ finished None 0 next a → b ≡ concluded limit what next a
conclude_nothing limit next what a b is made = rw is made

pub conclude_end : (limit next : ℕ) (what : Note) (halt : Halt) (a b : Arch) → what ≡ note.End halt → b ≡ finished None 0 next a → b ≡ concluded limit what next a
conclude_end limit next what halt a b is made = rw is made

pub conclude_out : (limit next byte : ℕ) (what : Note) (items : List ℕ) (a b : Arch) → what ≡ note.Out byte → nat_le limit (length a.output) ≡ false → items ≡ a.output ++ byte ∷ [] →
    b ≡ finished None 0 next (record a { output = items }) → b ≡ concluded limit what next a
conclude_out limit next byte what items a b is room grown made = rw (is, room) (made ∙ ap (λ o. finished None 0 next (record a { output = o })) grown)

-- an instruction that reaches nothing
pub nothing_made : (range : RamRange) (limit : ℕ) (destination : Option ℕ) (o : Outcome) (time : Option ℕ) (a b : Arch) → o.cause ≡ None → o.reach ≡ reach.Nothing →
    b ≡ finished destination o.value o.next a → b ≡ outcome_made range limit destination o time a
nothing_made range limit destination o time a b none plain made = rw (none, plain) made

-- what a load comes to, by its outcome
pub load_result : (range : RamRange) (e : Seen) (o : Outcome) (addr : ℕ) (width : Width) (signed : Bool) → o.cause ≡ None → o.reach ≡ reach.Load addr width signed →
    loaded_at o.next addr width signed e (spot_of range addr width) ≡ evaluated range e o
load_result range e o addr width signed none there = rw (none, there) refl

pub load_behind : (range : RamRange) (limit : ℕ) (destination : Option ℕ) (o : Outcome) (time : Option ℕ) (a b : Arch) (addr : ℕ) (width : Width) (signed : Bool) → o.cause ≡ None →
    o.reach ≡ reach.Load addr width signed → b ≡ load_made range destination o.next addr width signed time a → b ≡ outcome_made range limit destination o time a
load_behind range limit destination o time a b addr width signed none there made = rw (none, there) made

-- what is told of one result is told of an equal one
pub told_same : (limit : ℕ) (r s : Result) (a : Arch) (done : Performed) → r ≡ s → Told limit r a done → Told limit s a done
told_same limit r s a done same told =
    let P : Result → Type 0 = λ x. Told limit x a done in
    subst P same told

-- what is told where nothing was reached, and of a trap
pub told_plain : (limit value next : ℕ) (change : Change) (a : Arch) (done : Performed) → done ≡ plain_with change →
    Told limit (resulting value next access.Nothing) a done
told_plain limit value next change a done is =
    let P : Performed → Type 0 = λ x. Told limit (resulting value next access.Nothing) a x in
    subst P (sym is) (record { stepped = refl; sent = refl; access = refl; cause = refl })

pub told_failed : (limit next : ℕ) (tried : Access) (cause : Cause) (mtval : ℕ) (before : Csrs) (a : Arch) (done : Performed) → done ≡ failed_with tried cause before →
    Told limit (failing_access next tried cause mtval) a done
told_failed limit next tried cause mtval before a done is =
    let P : Performed → Type 0 = λ x. Told limit (failing_access next tried cause mtval) a x in
    subst P (sym is) (record { stepped = refl; sent = refl; access = refl; cause = refl })

-- what a store comes to, by its outcome
pub store_result : (range : RamRange) (e : Seen) (o : Outcome) (addr : ℕ) (width : Width) (value : ℕ) → o.cause ≡ None → o.reach ≡ reach.Store addr width value →
    stored_at o.next addr width value (spot_of range addr width) ≡ evaluated range e o
store_result range e o addr width value none there = rw (none, there) refl

pub store_behind : (range : RamRange) (limit : ℕ) (destination : Option ℕ) (o : Outcome) (time : Option ℕ) (a b : Arch) (addr : ℕ) (width : Width) (value : ℕ) → o.cause ≡ None →
    o.reach ≡ reach.Store addr width value → b ≡ store_made range limit o.next addr width value a → b ≡ outcome_made range limit destination o time a
store_behind range limit destination o time a b addr width value none there made = rw (none, there) made

pub none_caused : (cause : Option (Cause × ℕ)) → is_some cause ≡ false → cause ≡ None
none_caused None is = refl
none_caused (Some why) is = cc
