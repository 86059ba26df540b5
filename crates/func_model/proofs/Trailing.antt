-- The run alone from one position to the next, and what leads back.
use Rattle.std.proofs.Common.{◌≡◌, ℕ, zero, suc, ◌+◌, ◌≤◌, ◌<◌, ◌==◌, ◌&&◌, nat_le, Bool, true, false, if◌then◌else◌, List, [], ◌∷◌, ◌++◌, length, drop, Option, Some, None, is_some, is_none, refl, ap, sym, ◌∙◌, subst, add-one, arith}
use Rattle.std.proofs.lemmas.Grind.{common_steps}
use Rattle.fsim_base.specs.declared.instruction.Halt.{Halt}
use Rattle.fsim_base.specs.declared.instruction.Halt.TheVariants as halt
use Rattle.fsim_base.specs.declared.cause.Cause.{Cause}
use Rattle.device_bus.specs.declared.undo.Note.{Note}
use Rattle.device_bus.specs.declared.undo.Note.TheVariants as note
use Rattle.machine_csr.specs.Trap.{timer_pending}
use Rattle.mono_model.specs.declared.final_state.End.{End}
use Rattle.mono_model.specs.declared.final_state.End.TheVariants as end
use Rattle.mono_model.specs.declared.setup.Setup.{Setup}
use Rattle.mono_model.specs.Setup.{ram_range}
use Rattle.mono_model.specs.Arch.{Arch, compare_of, trapped, interrupted, synced}
use Rattle.mono_model.specs.Found.{is_fence_i}
use Rattle.mono_model.specs.Result.{Result}
use Rattle.mono_model.specs.Effect.{note_of, with_note, is_fence_result}
use Rattle.mono_model.specs.Sequence.{found_next, result_at, seq, byte_in, halt_in}
use Rattle.mono_model.specs.Final.{end_of, has_ended}
use Rattle.mono_model.specs.Alone.{Alone, alone, after_interrupt, instruction, has_no_room, with_fence, end_after, is_pending}
use Rattle.mono_model.proofs.Next.{alone-suc}
use Rattle.func_model.specs.declared.performed.PastStep.{PastStep}
use Rattle.func_model.specs.Contents.{before}
use Rattle.func_model.specs.History.{walk, IsReached, has_next, end_at, fences, step_seq, end_by}
use Rattle.func_model.specs.Trail.{IsPlace, IsBackOver, StepsLeadBack}
use Rattle.func_model.proofs.Advance.{fence_plain, result_same}
use Rattle.func_model.proofs.Running.{alone_goes_on, stay_step, if_arch, if_steps}
use Rattle.func_model.proofs.Undone.{effect_output}

-- past steps: one more, without the newest, without the oldest
module _ (s : Setup) where
  over_for : (n m : ℕ) (past : PastStep) → n ≡ m → IsBackOver s n past → IsBackOver s m past
  over_for n m past same over = subst (λ (k : ℕ). IsBackOver s k past) same over

  pub steps_more : (m : ℕ) (steps : List PastStep) (past : PastStep) → StepsLeadBack s m steps → IsBackOver s (m + length steps) past → StepsLeadBack s m (steps ++ past ∷ [])
  steps_more m [] past leads over = (over_for (m + 0) m past (omega arith) over, tt)
  steps_more m (p ∷ ps) past leads over =
      (leads.0, steps_more (suc m) ps past leads.1 (over_for (m + length (p ∷ ps)) (suc m + length ps) past (omega arith) over))

  pub steps_less : (m : ℕ) (steps : List PastStep) (past : PastStep) → StepsLeadBack s m (steps ++ past ∷ []) → StepsLeadBack s m steps × IsBackOver s (m + length steps) past
  steps_less m [] past leads = (tt, over_for m (m + 0) past (omega arith) leads.0)
  steps_less m (p ∷ ps) past leads =
      let less = steps_less (suc m) ps past leads.1 in
      ((leads.0, less.0), over_for (suc m + length ps) (m + length (p ∷ ps)) past (omega arith) less.1)

  pub steps_later : (m k : ℕ) (steps : List PastStep) → k ≤ length steps → StepsLeadBack s m steps → StepsLeadBack s (m + k) (drop k steps)
  steps_later m zero steps within leads = subst (λ (n : ℕ). StepsLeadBack s n steps) (omega arith) leads
  steps_later m (suc k) [] within leads = absurd (omega arith)
  steps_later m (suc k) (p ∷ ps) within leads =
      subst (λ (n : ℕ). StepsLeadBack s n (drop k ps)) (omega arith) (steps_later (suc m) k ps (omega arith) leads.1)

-- a FENCE.I has no cause
fence_by : (b : Bool) (cause : Option Cause) → (b ≡ true → cause ≡ None) → (b && is_none cause) ≡ b
fence_by true cause none = rw (none refl) refl
fence_by false cause none = refl

pub fence_is : (s : Setup) (made : ℕ) (b : Arch) → is_fence_result (found_next s b) (result_at s (Some made) b) ≡ is_fence_i (found_next s b)
fence_is s made b =
    fence_by (is_fence_i (found_next s b)) (result_at s (Some made) b).cause
    (λ is. sym (ap (λ (r : Result). r.cause) (result_same s (Some made) b)) ∙ fence_plain (ram_range s.params) (found_next s b) (Some made) b is)

-- room in the output, by whether a byte is sent
and_false : (b : Bool) → (b && false) ≡ false
and_false true = refl
and_false false = refl

and_true : (b : Bool) → (b && true) ≡ b
and_true true = refl
and_true false = refl

pub room_is : (s : Setup) (what : Note) (a : Arch) → has_no_room s what a ≡ (nat_le s.output (length a.output) && is_some (byte_in what))
room_is s note.Nothing a = sym (and_false (nat_le s.output (length a.output)))
room_is s (note.Out byte) a = sym (and_true (nat_le s.output (length a.output)))
room_is s (note.End how) a = sym (and_false (nat_le s.output (length a.output)))

pub fits_on : (s : Setup) (what : Note) (a : Arch) → length a.output ≤ s.output → has_no_room s what a ≡ false → length (with_note what a.output) ≤ s.output
fits_on s note.Nothing a fits room = fits
fits_on s (note.Out byte) a fits room = grind (arith, common_steps)
fits_on s (note.End how) a fits room = fits

-- the state in which the instruction is executed
interrupted_output : (b : Bool) (a : Arch) → (if b then interrupted a else a).output ≡ a.output
unfolding trapped
interrupted_output true a = refl
interrupted_output false a = refl

pub before_output : (number : ℕ) (a : Arch) → (before number a).output ≡ a.output
before_output number a = interrupted_output (timer_pending a.csrs number (compare_of a.devices)) a

fence_output : (s : Setup) (fence : Bool) (a : Arch) → (with_fence s fence a).output ≡ a.output
unfolding synced
fence_output s true a = refl
fence_output s false a = refl

pub seq_output : (s : Setup) (number : ℕ) (b : Arch) → (seq s (Some number) b).output ≡ with_note (note_of (result_at s (Some number) b) b) b.output
unfolding seq
seq_output s number b = effect_output (found_next s b) (result_at s (Some number) b) (Some number) b.pc b

-- how the run stands behind a step
pub end_is_by : (s : Setup) (what : Note) (k : ℕ) → end_by (halt_in what) (k == s.cycles) ≡ end_after s what k
end_is_by s note.Nothing k = refl
end_is_by s (note.Out byte) k = refl
end_is_by s (note.End how) k = refl

-- the note of the step behind so many
abbrev pub note_at : Setup → ℕ → Arch → Note
note_at s made a = note_of (result_at s (Some made) (before made a)) (before made a)

-- the instruction of a run whose state and number are these
record IsNext (s : Setup) (made : ℕ) (b : Arch) (m : Alone) : Type 0 where
  steps : m.steps ≡ made + 1
  arch : m.arch ≡ with_fence s (is_fence_i (found_next s b)) (seq s (Some made) b)
  end_is : m.end ≡ end_after s (note_of (result_at s (Some made) b) b) (made + 1)

next_of : (s : Setup) (made : ℕ) (b : Arch) (m : Alone) → has_no_room s (note_of (result_at s (Some made) b) b) b ≡ false → IsNext s made b (instruction s (record m { arch = b; steps = made }))
next_of s made b m room = record {
  steps = rw room refl;
  arch = rw room (ap (λ (f : Bool). with_fence s f (seq s (Some made) b)) (fence_is s made b));
  end_is = rw room refl;
}

record IsFull (made : ℕ) (m : Alone) : Type 0 where
  steps : m.steps ≡ made
  end_is : m.end ≡ end.OutputFull

full_of : (s : Setup) (made : ℕ) (b : Arch) (m : Alone) → has_no_room s (note_of (result_at s (Some made) b) b) b ≡ true → IsFull made (instruction s (record m { arch = b; steps = made }))
full_of s made b m room = record { steps = rw room refl; end_is = rw room refl }

same_run : (m : Alone) (b : Arch) (made : ℕ) → m.arch ≡ b → m.steps ≡ made → m ≡ record m { arch = b; steps = made }
same_run m b made arch steps = λ i. record m { arch = arch i; steps = steps i }

readied : (s : Setup) (made : ℕ) → IsReached s made → after_interrupt (alone s made) ≡ record (after_interrupt (alone s made)) { arch = before made (walk s made); steps = made }
readied s made reached =
    let m : Alone = alone s made in
    same_run (after_interrupt m) (before made m.arch) made
    (if_arch (is_pending m) m ∙ ap (λ (k : ℕ). before k m.arch) reached)
    (if_steps (is_pending m) m ∙ reached)

not_next : (made : ℕ) → (made == made + 1) ≡ false
not_next made = grind (arith, common_steps)

going_on : (s : Setup) (made : ℕ) → IsPlace s made end.Running → alone s (made + 1) ≡ instruction s (record (after_interrupt (alone s made)) { arch = before made (walk s made); steps = made })
going_on s made place = alone_goes_on s made (ap has_ended place.end_is) ∙ ap (instruction s) (readied s made place.reached)

-- no further step: the run has ended, or the output has no room for its byte
none_next : (s : Setup) (made : ℕ) (how : End) → (alone s (made + 1)).steps ≡ made → (alone s (made + 1)).end ≡ how → end_at s made ≡ Some how
none_next s made how steps is =
    let none : has_next s made ≡ false = ap (λ (k : ℕ). k == made + 1) steps ∙ not_next made in
    ap (λ (b : Bool). if b then None else Some (alone s (made + 1)).end) none ∙ ap (λ (e : End). Some e) is

pub full_ends : (s : Setup) (made : ℕ) → IsPlace s made end.Running → has_no_room s (note_at s made (walk s made)) (before made (walk s made)) ≡ true → end_at s made ≡ Some end.OutputFull
full_ends s made place room =
    let full = full_of s made (before made (walk s made)) (after_interrupt (alone s made)) room in
    let on = going_on s made place in
    none_next s made end.OutputFull (ap (λ (m : Alone). m.steps) on ∙ full.steps) (ap (λ (m : Alone). m.end) on ∙ full.end_is)

pub ended_ends : (s : Setup) (made : ℕ) (how : End) → IsPlace s made how → has_ended how ≡ true → end_at s made ≡ Some how
ended_ends s made how place ended =
    let stays : alone s (made + 1) ≡ alone s made = ap (alone s) (add-one made) ∙ alone-suc s made ∙ stay_step s (alone s made) (ap has_ended place.end_is ∙ ended) in
    none_next s made how (ap (λ (m : Alone). m.steps) stays ∙ place.reached) (ap (λ (m : Alone). m.end) stays ∙ place.end_is)

-- a further step
pub record Next (s : Setup) (made : ℕ) (how : End) : Type 0 where
  pub none : end_at s made ≡ None
  pub state : walk s (made + 1) ≡ with_fence s (fences s made) (step_seq s made (walk s made))
  pub place : IsPlace s (made + 1) how

same_as : (n : ℕ) → (n == n) ≡ true
same_as n = grind (arith, common_steps)

going_by : (told : Option Halt) (last : Bool) → end_by told last ≡ end.Running → last ≡ false
going_by None true is = cc
going_by None false is = refl
going_by (Some how) last is = absurd (halts how is)
  where
    halts : (h : Halt) → end_of h ≡ end.Running → ⊥
    halts halt.Pass is = cc
    halts (halt.Fail code) is = cc

pub goes_on : (s : Setup) (made : ℕ) (ended : Option Halt) → IsPlace s made end.Running → ended ≡ halt_in (note_at s made (walk s made)) →
    has_no_room s (note_at s made (walk s made)) (before made (walk s made)) ≡ false → Next s made (end_by ended (made + 1 == s.cycles))
goes_on s made ended place told room =
    let b : Arch = before made (walk s made) in
    let next = next_of s made b (after_interrupt (alone s made)) room in
    let on = going_on s made place in
    let reached : IsReached s (made + 1) = ap (λ (m : Alone). m.steps) on ∙ next.steps in
    let state : walk s (made + 1) ≡ with_fence s (fences s made) (step_seq s made (walk s made)) = ap (λ (m : Alone). m.arch) on ∙ next.arch in
    let output : (walk s (made + 1)).output ≡ with_note (note_at s made (walk s made)) b.output =
    ap (λ (a : Arch). a.output) state ∙ fence_output s (fences s made) (step_seq s made (walk s made)) ∙ seq_output s made b in
    let fits : length b.output ≤ s.output = subst (λ (o : List ℕ). length o ≤ s.output) (sym (before_output made (walk s made))) place.fits in
    let last : made < s.cycles = place.going refl in
    record {
      none = ap (λ (k : Bool). if k then None else Some (alone s (made + 1)).end) (ap (λ (k : ℕ). k == made + 1) reached ∙ same_as (made + 1));
      state = state;
      place = record {
        reached = reached;
        end_is = ap (λ (m : Alone). m.end) on ∙ next.end_is ∙ sym (end_is_by s (note_at s made (walk s made)) (made + 1))
            ∙ ap (λ (h : Option Halt). end_by h (made + 1 == s.cycles)) (sym told);
        fits = subst (λ (o : List ℕ). length o ≤ s.output) (sym output) (fits_on s (note_at s made (walk s made)) b fits room);
        within = omega (arith, last);
        going = λ is. before_last made s.cycles last (going_by ended (made + 1 == s.cycles) is);
      };
    }
  where
    before_last : (made cycles : ℕ) → made < cycles → (made + 1 == cycles) ≡ false → made + 1 < cycles
    before_last made cycles below other = grind (arith, common_steps)
