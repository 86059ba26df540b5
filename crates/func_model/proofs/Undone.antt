-- An undo step takes back what execution did.
use Rattle.std.proofs.Common.{◌≡◌, ℕ, ◌<◌, ◌+◌, ◌-◌, ◌==◌, ◌++◌, false, if◌then◌else◌, true, List, [], ◌∷◌, length, Option, Some, None, is_some, refl, ap, ◌∙◌, arith}
use Rattle.std.proofs.lemmas.Grind.{common_steps}
use Rattle.std.proofs.lemmas.Bool.Decides.{nat_tests}
use Rattle.fsim_base.specs.declared.access.RamRange.{RamRange}
use Rattle.fsim_base.specs.declared.cause.Cause.{Cause}
use Rattle.device_bus.specs.declared.undo.Note.{Note}
use Rattle.device_bus.specs.declared.undo.Note.TheVariants as note
use Rattle.device_bus.specs.Bus.{Devices}
use Rattle.mono_model.specs.Arch.{Arch, with_register, trapped}
use Rattle.mono_model.specs.Found.{Found, destination_in}
use Rattle.mono_model.specs.Result.{Result}
use Rattle.mono_model.specs.Effect.{counted, effect, effect_by, retired, note_of, with_note}
use Rattle.machine_csr.specs.declared.csrs.Csrs.{Csrs}
use Rattle.mono_model.specs.Sequence.{byte_in}
use Rattle.func_model.specs.declared.performed.Performed.{Performed}
use Rattle.func_model.specs.Steps.{is_full, stepped_by, behind, Told}
use Rattle.func_model.specs.Undo.{registers_back, shortened, undone, uncounted, is_executed, TakesBack, register_before, past_of}

-- an output that isn't full lets the instruction be executed
not_full : (limit : ℕ) (output : List ℕ) (what : Note) → length output < limit → is_full limit output what ≡ false
not_full limit output note.Nothing room = refl
not_full limit output (note.Out byte) room = grind (arith, nat_tests)
not_full limit output (note.End halt) room = refl

pub behind_effect : (limit : ℕ) (found : Found) (r : Result) (time : Option ℕ) (a : Arch) → length a.output < limit → behind limit found r time a ≡ effect found r time a.pc a
behind_effect limit found r time a room = rw (not_full limit a.output (note_of r a) room) refl

was_executed : (limit : ℕ) (output : List ℕ) (what : Note) → length output < limit → is_executed (stepped_by limit output what) ≡ true
was_executed limit output note.Nothing room = refl
was_executed limit output (note.Out byte) room = rw (not_full limit output (note.Out byte) room) refl
was_executed limit output (note.End halt) room = refl

-- the count of retired instructions
pub counted_back : (csrs : Csrs) → uncounted (counted csrs) ≡ csrs
counted_back csrs =
    let e : csrs.retired + 1 - 1 ≡ csrs.retired = omega arith in
    λ i. record csrs { retired = e i }

-- registers
kept_at : (d : ℕ) (regs : ℕ → ℕ) → with_register (Some d) (regs d) regs ≡ regs
kept_at d regs =
    let at : (x : ℕ) → (if x == d then regs d else regs x) ≡ regs x = λ x. grind (arith, common_steps) in
    λ i x. at x i

written_back : (destination : Option ℕ) (value : ℕ) (regs : ℕ → ℕ) → registers_back (register_before destination regs) (with_register destination value regs) ≡ regs
written_back None value regs = kept_at 0 regs
written_back (Some d) value regs =
    let at : (x : ℕ) → (if x == d then regs d else (if x == d then value else regs x)) ≡ regs x = λ x. grind (arith, common_steps) in
    λ i x. at x i

kept_back : (destination : Option ℕ) (regs : ℕ → ℕ) → registers_back (register_before destination regs) regs ≡ regs
kept_back None regs = kept_at 0 regs
kept_back (Some d) regs = kept_at d regs

registers_by : (cause : Option Cause) (found : Found) (r : Result) (time : Option ℕ) (addr : ℕ) (a : Arch) →
    registers_back (register_before (destination_in found) a.regs) (effect_by cause found r time addr a).regs ≡ a.regs
unfolding retired trapped
registers_by None found r time addr a = written_back (destination_in found) r.value a.regs
registers_by (Some cause) found r time addr a = kept_back (destination_in found) a.regs

effect_registers : (found : Found) (r : Result) (time : Option ℕ) (addr : ℕ) (a : Arch) →
    registers_back (register_before (destination_in found) a.regs) (effect found r time addr a).regs ≡ a.regs
unfolding effect
effect_registers found r time addr a = registers_by r.cause found r time addr a

-- what fetch reads
text_by : (cause : Option Cause) (found : Found) (r : Result) (time : Option ℕ) (addr : ℕ) (a : Arch) → (effect_by cause found r time addr a).text ≡ a.text
unfolding retired trapped
text_by None found r time addr a = refl
text_by (Some cause) found r time addr a = refl

effect_text : (found : Found) (r : Result) (time : Option ℕ) (addr : ℕ) (a : Arch) → (effect found r time addr a).text ≡ a.text
unfolding effect
effect_text found r time addr a = text_by r.cause found r time addr a

-- the output
output_by : (cause : Option Cause) (found : Found) (r : Result) (time : Option ℕ) (addr : ℕ) (a : Arch) → r.cause ≡ cause →
    (effect_by cause found r time addr a).output ≡ with_note (note_of r a) a.output
unfolding retired trapped
output_by None found r time addr a is = refl
output_by (Some cause) found r time addr a is = rw is refl

pub effect_output : (found : Found) (r : Result) (time : Option ℕ) (addr : ℕ) (a : Arch) → (effect found r time addr a).output ≡ with_note (note_of r a) a.output
unfolding effect
effect_output found r time addr a = output_by r.cause found r time addr a refl

shortened_one : (output : List ℕ) (byte : ℕ) → shortened (output ++ byte ∷ []) ≡ output
shortened_one output byte = grind (arith, common_steps)

output_back : (what : Note) (sent : Option ℕ) (output : List ℕ) → sent ≡ byte_in what → (if is_some sent then shortened (with_note what output) else with_note what output) ≡ output
output_back note.Nothing sent output is = rw is refl
output_back (note.Out byte) sent output is = rw is (shortened_one output byte)
output_back (note.End halt) sent output is = rw is refl

-- the parts of a state
same_parts : (a : Arch) (regs ram text : ℕ → ℕ) (csrs : Csrs) (devices : Devices) (output : List ℕ) → regs ≡ a.regs → ram ≡ a.ram → text ≡ a.text → csrs ≡ a.csrs → devices ≡ a.devices →
    output ≡ a.output → record { pc = a.pc; regs = regs; ram = ram; text = text; csrs = csrs; devices = devices; output = output } ≡ a
same_parts a regs ram text csrs devices output r m t c d o = λ i. record { pc = a.pc; regs = r i; ram = m i; text = t i; csrs = c i; devices = d i; output = o i }

-- the undo step of an instruction that was executed leads back to the state before it
pub undone_execute : (range : RamRange) (number : ℕ) (found : Found) (r : Result) (time : Option ℕ) (limit : ℕ) (a b : Arch) (done : Performed) →
    Told limit r a done → b ≡ behind limit found r time a → TakesBack range done a b → length a.output < limit → undone range (past_of number found a done) b ≡ a
unfolding undone
undone_execute range number found r time limit a b done told made back room =
    let e : b ≡ effect found r time a.pc a = made ∙ behind_effect limit found r time a room in
    same_parts a _ _ _ _ _ _
    (ap (λ (x : Arch). registers_back (register_before (destination_in found) a.regs) x.regs) e ∙ effect_registers found r time a.pc a)
    back.memory
    (ap (λ (x : Arch). x.text) e ∙ effect_text found r time a.pc a)
    (back.csrs (ap is_executed told.stepped ∙ was_executed limit a.output (note_of r a) room))
    back.devices
    (ap (λ (o : List ℕ). if is_some done.sent then shortened o else o) (ap (λ (x : Arch). x.output) e ∙ effect_output found r time a.pc a) ∙ output_back (note_of r a) done.sent a.output told.sent)
