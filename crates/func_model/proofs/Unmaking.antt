-- A step of the run alone is taken back, its interrupt included.
use Rattle.std.proofs.Common.{◌≡◌, ℕ, Bool, true, false, if◌then◌else◌, Some, is_some, refl, ap, sym, subst, ◌∙◌}
use Rattle.machine_csr.specs.Trap.{timer_pending}
use Rattle.mono_model.specs.declared.setup.Setup.{Setup}
use Rattle.mono_model.specs.Setup.{ram_range}
use Rattle.mono_model.specs.Arch.{Arch, compare_of, trapped, interrupted}
use Rattle.mono_model.specs.Found.{is_fence_i}
use Rattle.mono_model.specs.Sequence.{found_next, entry_at}
use Rattle.trace_entry.specs.declared.Entry.{Entry}
use Rattle.undo_journal.specs.declared.past.Past.{Past}
use Rattle.func_model.specs.declared.contents.Contents.{Contents}
use Rattle.func_model.specs.declared.performed.Interrupted.{Interrupted}
use Rattle.func_model.specs.declared.performed.PastStep.{PastStep}
use Rattle.func_model.specs.declared.performed.Made.{Made}
use Rattle.func_model.specs.Hart.{arch_of}
use Rattle.func_model.specs.Contents.{ContentsStandFor, before}
use Rattle.func_model.specs.Telling.{IsNextStep, IsQuiet}
use Rattle.func_model.specs.Undo.{trap_before, trap_back, undone, IsRestorable}
use Rattle.func_model.specs.History.{step_seq, resumed, uninterrupted, going_on, IsMade, IsPlainStep}
use Rattle.func_model.proofs.Advance.{pending_is, before_idle}

-- what an interrupt changes
set_back : (is_due : Bool) (a : Arch) → record (if is_due then interrupted a else a) { pc = a.pc; csrs = trap_back (trap_before a.csrs) (if is_due then interrupted a else a).csrs } ≡ a
unfolding trapped
set_back true a = refl
set_back false a = refl

pub resumed_back : (number : ℕ) (was : Interrupted) (a : Arch) → was.pc ≡ a.pc → was.trap ≡ trap_before a.csrs → resumed (Some was) (before number a) ≡ a
resumed_back number was a pc trap =
    (λ i. record (before number a) { pc = pc i; csrs = trap_back (trap i) (before number a).csrs })
    ∙ set_back (timer_pending a.csrs number (compare_of a.devices)) a

-- what is told of the step, by the entry of its instruction
pub made_is : (s : Setup) (number : ℕ) (a : Arch) (entry : Entry) (made : Made) → entry ≡ entry_at s (Some number) (before number a) number 0 → made.has_sent ≡ is_some entry.out → made.halt ≡ entry.halt →
    made.is_fence ≡ is_fence_i (found_next s (before number a)) → undone (ram_range s.params) made.past.past (step_seq s number a) ≡ before number a → resumed made.past.interrupted (before number a) ≡ a →
    IsMade s number a made
unfolding entry_at
made_is s number a entry made told sent halt fence back resumes = record {
  sent = sent ∙ ap (λ (e : Entry). is_some e.out) told;
  halt = halt ∙ ap (λ (e : Entry). e.halt) told;
  fence = fence;
  back = ap (resumed made.past.interrupted) back ∙ resumes;
}

-- where no interrupt is pending, the instruction is executed at the state as it is
unmoved : {D : Type 0} (s : Setup) (a : Arch) (side : Contents D) (number : ℕ) (pending : Bool) → ContentsStandFor s a side → pending ≡ timer_pending side.hart.csrs number side.cmp → pending ≡ false → a ≡ before number a
unfolding arch_of
unmoved s a side number pending h is off = before_idle number a (sym (pending_is (arch_of side.hart side.bus) a number side.cmp pending h.arch h.compare is) ∙ off)

ready : {D : Type 0} (s : Setup) (a b : Arch) (side : Contents D) → ContentsStandFor s a side → a ≡ b → ContentsStandFor s b side
ready {D} s a b side h same = subst (λ (x : Arch). ContentsStandFor {D = D} s x side) same h

-- then the step is its instruction's
pub plain_step : {D : Type 0} (number : ℕ) (old new : Contents D) (told : Entry × Past) (back : PastStep) (pending : Bool) → back ≡ uninterrupted told.1 → pending ≡ timer_pending old.hart.csrs number old.cmp → pending ≡ false →
    ((s : Setup) (a : Arch) → ContentsStandFor s a old → IsNextStep s (Some number) number 0 a new told) → IsQuiet old new told → IsRestorable told.1 →
    IsPlainStep number old new back
plain_step {D} number old new told back pending alone is off step quiet restorable = subst (λ (past : PastStep). IsPlainStep {D = D} number old new past) (sym alone) (record {
  stands = λ s a h.
      let idle = unmoved s a old number pending h is off in
      (step s (before number a) (ready s a (before number a) old h idle)).stands;
  made = λ s a h.
      let b : Arch = before number a in
      let idle = unmoved s a old number pending h is off in
      let at = ready s a b old h idle in
      let next = step s b at in
      made_is s number a told.0 (going_on (uninterrupted told.1)) next.entry (ap is_some (sym quiet.silent)) (sym quiet.going) (sym (quiet.no_fence s b at)) next.back (sym idle);
  restorable = restorable;
})
