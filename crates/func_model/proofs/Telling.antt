-- What is told of an instruction that was executed is its entry, and its undo step takes it back.
use Rattle.std.proofs.Common.{◌≡◌, ℕ, ◌≤◌, ◌<◌, ◌+◌, ◌&&◌, Bool, if◌then◌else◌, Option, slice_index, length, is_none, refl, ap, ◌∙◌, arith}
use Rattle.fsim_base.specs.declared.access.RamRange.{RamRange}
use Rattle.trace_entry.specs.declared.Entry.{Entry}
use Rattle.undo_journal.specs.declared.past.Past.{Past}
use Rattle.fsim_base.specs.declared.instruction.Class.{Class}
use Rattle.device_bus.specs.Bus.{Devices}
use Rattle.mono_model.specs.declared.setup.Setup.{Setup}
use Rattle.mono_model.specs.Arch.{Arch, compare_of}
use Rattle.mono_model.specs.Found.{Found, known, word_in, class_in, destination_in}
use Rattle.mono_model.specs.Result.{is_time_read}
use Rattle.mono_model.specs.Sequence.{entry_at, seq}
use Rattle.phys_mem.specs.Ram.{exec_of, range_of}
use Rattle.func_model.specs.declared.contents.Contents.{Contents}
use Rattle.func_model.specs.declared.contents.Named.{Named}
use Rattle.func_model.specs.declared.found.Decoded.{Decoded}
use Rattle.func_model.specs.declared.hart.Hart.{Hart}
use Rattle.func_model.specs.declared.performed.OldRegister.{OldRegister}
use Rattle.func_model.specs.declared.performed.Performed.{Performed}
use Rattle.func_model.specs.Hart.{arch_of, DecodedFits, next_found}
use Rattle.func_model.specs.Steps.{behind, result_of, Told}
use Rattle.func_model.specs.Contents.{ContentsStandFor}
use Rattle.func_model.specs.Undo.{past_of, TakesBack, is_device}
use Rattle.func_model.specs.Telling.{named_at, named_by, entry_by, past_by, IsNextStep}
use Rattle.func_model.proofs.Advance.{met_found}
use Rattle.func_model.proofs.Compared.{compare_kept, compare_in, compare_for}
use Rattle.func_model.proofs.Counts.{behind_retired}
use Rattle.func_model.proofs.Stepping.{Executed, entry_told, executed_at, executed_seq, back_from}
use Rattle.func_model.proofs.Written.{before_written}

-- an instruction is named by what is read off it
pub named_found : (hart : Hart) (found : Found) (word : ℕ) (class : Class) (destination : Option ℕ) (number epoch : ℕ) (named : Named) →
    named ≡ named_by hart word class destination number epoch → word ≡ word_in found → class ≡ class_in found → destination ≡ destination_in found → named ≡ named_at hart found number epoch
named_found hart found word class destination number epoch named is word_is class_is destination_is =
    is ∙ (λ i. named_by hart (word_is i) (class_is i) (destination_is i) number epoch)

pub named_known : (hart : Hart) (decoded : Decoded) (number epoch : ℕ) (named : Named) → named ≡ named_by hart decoded.word decoded.class decoded.destination number epoch →
    DecodedFits decoded → named ≡ named_at hart (known decoded.word decoded.insn) number epoch
named_known hart decoded number epoch named is fits =
    named_found hart (known decoded.word decoded.insn) decoded.word decoded.class decoded.destination number epoch named is refl fits.class fits.destination

-- the same where its register is told by a number
pub named_written : (hart : Hart) (decoded : Decoded) (number epoch value : ℕ) → value ≡ slice_index hart.regs decoded.written → DecodedFits decoded →
    record { number = number; epoch = epoch; addr = hart.pc; word = decoded.word; class = decoded.class; value = value; register = decoded.written }
    ≡ named_at hart (known decoded.word decoded.insn) number epoch
named_written hart decoded number epoch value is fits =
    let held : OldRegister → Named = λ was. record { number = number; epoch = epoch; addr = hart.pc; word = decoded.word; class = decoded.class; value = was.value; register = was.register } in
    (λ i. held (record { register = decoded.written; value = is i }))
    ∙ ap held (before_written decoded.destination decoded.written (λ r. slice_index hart.regs r) fits.written)
    ∙ named_known hart decoded number epoch (named_by hart decoded.word decoded.class decoded.destination number epoch) refl fits

pub told_entry : (s : Setup) (time : Option ℕ) (limit number epoch : ℕ) (a : Arch) (found : Found) (done : Performed) (hart behind : Hart) (d e : Devices) (named : Named) (unserved : Bool) (cmp : ℕ) →
    Executed s time limit a found done (arch_of behind e) → arch_of hart d ≡ a → named ≡ named_at hart found number epoch → unserved ≡ (is_time_read found done.access && is_none time) →
    cmp ≡ compare_of e → entry_by named done unserved behind cmp ≡ entry_at s time a number epoch
unfolding arch_of
told_entry s time limit number epoch a found done hart behind d e named unserved cmp executed here is served compared =
    let reads : Bool = is_time_read found done.access && is_none time in
    let whole : entry_by named done unserved behind cmp ≡ entry_by (named_at hart found number epoch) done reads behind (compare_of e) =
    (λ i. entry_by (is i) done (served i) behind (compared i)) in
    whole
    ∙ ap (λ (x : Arch). entry_by (record (named_at hart found number epoch) { addr = x.pc }) done reads behind (compare_of e)) here
    ∙ entry_told s time limit number epoch a found done (arch_of behind e) executed

pub told_past : (number epoch : ℕ) (found : Found) (done : Performed) (hart : Hart) (d : Devices) (named : Named) → named ≡ named_at hart found number epoch →
    past_by named done ≡ past_of number found (arch_of hart d) done
unfolding arch_of
told_past number epoch found done hart d named is = ap (λ (n : Named). past_by n done) is

-- a step of what a side holds, from what the hart did
pub step_is : {D : Type 0} (s : Setup) (time : Option ℕ) (limit number epoch : ℕ) (old : Contents D) (hart : Hart) (bus : Devices) (cmp : ℕ) (a : Arch) (found : Found) (done : Performed) (named : Named) (unserved : Bool) (told : Entry × Past) →
    ContentsStandFor s a old → found ≡ next_found old.hart → Told limit (result_of (range_of old.hart.memory) found time (arch_of old.hart old.bus)) (arch_of old.hart old.bus) done →
    arch_of hart bus ≡ behind limit found (result_of (range_of old.hart.memory) found time (arch_of old.hart old.bus)) time (arch_of old.hart old.bus) →
    TakesBack (range_of old.hart.memory) done (arch_of old.hart old.bus) (arch_of hart bus) → exec_of hart.memory ≡ exec_of old.hart.memory → range_of hart.memory ≡ range_of old.hart.memory →
    length old.hart.output.items < limit → cmp ≡ (if is_device done.change then compare_of bus else old.cmp) → named ≡ named_at old.hart found number epoch →
    unserved ≡ (is_time_read found done.access && is_none time) → told.0 ≡ entry_by named done unserved hart cmp → told.1 ≡ past_by named done →
    IsNextStep {D = D} s time number epoch a (record { cmp = cmp; hart = hart; bus = bus }) told
unfolding arch_of
step_is {D} s time limit number epoch old hart bus cmp a found done named unserved told h is did made back exec range room cmp_is named_is served entry past =
    let x : Arch = arch_of old.hart old.bus in
    let b : Arch = arch_of hart bus in
    let executed : Executed s time limit a found done b = executed_at s time limit (range_of old.hart.memory) found x a b done h.arch h.range
    (met_found s (exec_of old.hart.memory) found x a h.exec h.arch is) did made room in
    let next : b ≡ seq s time a = executed_seq s time limit a found done b executed in
    let compared : cmp ≡ compare_of bus = compare_kept done.change old.cmp cmp old.bus bus back.devices (compare_in old.cmp x a h.arch h.compare) cmp_is in
    record {
      stands = record { arch = next; exec = exec ∙ h.exec; range = range ∙ h.range; compare = compare_for cmp b (seq s time a) next compared };
      entry = entry ∙ told_entry s time limit number epoch a found done old.hart hart old.bus bus named unserved cmp executed h.arch named_is served compared;
      back = back_from s time limit number (range_of old.hart.memory) found (result_of (range_of old.hart.memory) found time x) x a b done told.1 h.arch h.range
          (past ∙ told_past number epoch found done old.hart old.bus named named_is) did made back room next;
    }

-- how many instructions have retired behind it
pub step_bound : (limit : ℕ) (time : Option ℕ) (found : Found) (range : RamRange) (old hart : Hart) (d e : Devices) →
    arch_of hart e ≡ behind limit found (result_of range found time (arch_of old d)) time (arch_of old d) → hart.csrs.retired ≤ old.csrs.retired + 1
unfolding arch_of
step_bound limit time found range old hart d e made =
    omega (arith, ap (λ (x : Arch). x.csrs.retired) made, behind_retired limit found (result_of range found time (arch_of old d)) time (arch_of old d))
