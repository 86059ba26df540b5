-- The run alone, step by step, and how it ends.
use Rattle.std.proofs.Common.{◌≡◌, ℕ, zero, suc, ◌+◌, ◌-◌, ◌≤◌, ◌<◌, ◌==◌, Bool, true, false, if◌then◌else◌, Some, refl, ap, sym, ◌∙◌, subst, add-one, add-zero, zero-add, arith}
use Rattle.std.proofs.lemmas.Grind.{common_steps}
use Rattle.fsim_base.specs.declared.instruction.Halt.{Halt}
use Rattle.fsim_base.specs.declared.instruction.Halt.TheVariants as halt
use Rattle.device_bus.specs.declared.undo.Note.{Note}
use Rattle.device_bus.specs.declared.undo.Note.TheVariants as note
use Rattle.machine_csr.specs.Trap.{timer_pending}
use Rattle.mono_model.specs.declared.final_state.End.{End}
use Rattle.mono_model.specs.declared.final_state.End.TheVariants as end
use Rattle.mono_model.specs.declared.setup.Setup.{Setup}
use Rattle.mono_model.specs.Arch.{Arch, start, trapped, interrupted, synced, compare_of}
use Rattle.mono_model.specs.Effect.{effect, note_of, is_fence_result}
use Rattle.mono_model.specs.Sequence.{found_next, result_at, seq}
use Rattle.mono_model.specs.Final.{end_of, has_ended}
use Rattle.mono_model.specs.Alone.{Alone, alone, alone_start, alone_step, after_interrupt, instruction, has_no_room, with_fence, end_after, count_cause, is_pending}
use Rattle.mono_model.proofs.Next.{alone-suc}
use Rattle.func_model.specs.declared.performed.Stepped.{Stepped}
use Rattle.func_model.specs.declared.performed.Stepped.TheVariants as code
use Rattle.func_model.specs.declared.contents.Contents.{Contents}
use Rattle.func_model.specs.Steps.{is_full, stepped_by}
use Rattle.func_model.specs.Contents.{ContentsStandFor, retired_in, after_instruction, before}
use Rattle.func_model.specs.Alone.{IsAt, IsOnAt}
use Rattle.func_model.specs.Hart.{arch_of}
use Rattle.func_model.proofs.Counts.{effect_retired}

-- what holds before each step
pub record Invariant {D : Type 0} (limit from to before made count : ℕ) (opened side : Contents D) : Type 0 where
  pub retired_bound : retired_in side ≤ made
  pub count_bound : count ≤ made
  pub room : side.hart.room ≡ opened.hart.room
  pub running : (s : Setup) → s.output ≡ limit → to ≤ s.cycles → IsOnAt s (alone s from) from before opened → IsOnAt s (alone s made) made count side

-- how the answer of a step tells of its note
out_on : (full : Bool) → (if full then code.Full else code.On) ≡ code.On → full ≡ false
out_on true is = cc
out_on false is = refl

out_full : (full : Bool) → (if full then code.Full else code.On) ≡ code.Full → full ≡ true
out_full true is = refl
out_full false is = cc

out_ended : (full : Bool) (halt : Halt) → (if full then code.Full else code.On) ≡ code.Ended halt → ⊥
out_ended true halt is = cc
out_ended false halt is = cc

on_room : (s : Setup) (what : Note) (a : Arch) → stepped_by s.output a.output what ≡ code.On → has_no_room s what a ≡ false
on_room s note.Nothing a is = refl
on_room s (note.Out byte) a is = out_on _ is
on_room s (note.End halt) a is = cc

on_full : (s : Setup) (what : Note) (a : Arch) → stepped_by s.output a.output what ≡ code.On → is_full s.output a.output what ≡ false
on_full s note.Nothing a is = refl
on_full s (note.Out byte) a is = out_on _ is
on_full s (note.End halt) a is = cc

on_end : (s : Setup) (what : Note) (a : Arch) (k : ℕ) → stepped_by s.output a.output what ≡ code.On → end_after s what k ≡ (if k == s.cycles then end.Limit else end.Running)
on_end s note.Nothing a k is = refl
on_end s (note.Out byte) a k is = refl
on_end s (note.End halt) a k is = cc

full_room : (s : Setup) (what : Note) (a : Arch) → stepped_by s.output a.output what ≡ code.Full → has_no_room s what a ≡ true
full_room s note.Nothing a is = cc
full_room s (note.Out byte) a is = out_full _ is
full_room s (note.End halt) a is = cc

full_full : (s : Setup) (what : Note) (a : Arch) → stepped_by s.output a.output what ≡ code.Full → is_full s.output a.output what ≡ true
full_full s note.Nothing a is = cc
full_full s (note.Out byte) a is = out_full _ is
full_full s (note.End halt) a is = cc

ended_room : (s : Setup) (what : Note) (a : Arch) (halt : Halt) → stepped_by s.output a.output what ≡ code.Ended halt → has_no_room s what a ≡ false
ended_room s note.Nothing a halt is = cc
ended_room s (note.Out byte) a halt is = absurd (out_ended _ halt is)
ended_room s (note.End other) a halt is = refl

ended_full : (s : Setup) (what : Note) (a : Arch) (halt : Halt) → stepped_by s.output a.output what ≡ code.Ended halt → is_full s.output a.output what ≡ false
ended_full s note.Nothing a halt is = cc
ended_full s (note.Out byte) a halt is = absurd (out_ended _ halt is)
ended_full s (note.End other) a halt is = refl

ended_end : (s : Setup) (what : Note) (a : Arch) (k : ℕ) (halt : Halt) → stepped_by s.output a.output what ≡ code.Ended halt → end_after s what k ≡ end_of halt
ended_end s note.Nothing a k halt is = cc
ended_end s (note.Out byte) a k halt is = absurd (out_ended _ halt is)
ended_end s (note.End other) a k halt is = ap end_of (same other halt is)
  where
    same : (x y : Halt) → code.Ended x ≡ code.Ended y → x ≡ y
    same x y e = cc

-- the note of the next instruction of a run
abbrev pub note_next : Setup → Alone → Note
note_next s m = note_of (result_at s (Some m.steps) m.arch) m.arch

abbrev pub behind_next : Setup → Alone → Arch
behind_next s m = after_instruction s (found_next s m.arch) (result_at s (Some m.steps) m.arch) m.steps m.arch

-- a step that goes on
pub step_on : {D : Type 0} (s : Setup) (m : Alone) (count : ℕ) (side : Contents D) → m.interrupts ≡ count → stepped_by s.output m.arch.output (note_next s m) ≡ code.On →
    ContentsStandFor s (behind_next s m) side → IsOnAt s (instruction s m) (m.steps + 1) count side
unfolding seq
step_on {D} s m count side taken on h =
    let room : has_no_room s (note_next s m) m.arch ≡ false = on_room s (note_next s m) m.arch on in
    let space : is_full s.output m.arch.output (note_next s m) ≡ false = on_full s (note_next s m) m.arch on in
    let P : Arch → Type 0 = λ a. ContentsStandFor {D = D} s a side in
    record {
      stands = rw room (rw space at h);
      steps = rw room refl;
      taken = rw room taken;
      end = rw room (on_end s (note_next s m) m.arch (m.steps + 1) on);
    }

pub step_full : {D : Type 0} (s : Setup) (m : Alone) (count : ℕ) (side : Contents D) → m.interrupts ≡ count → stepped_by s.output m.arch.output (note_next s m) ≡ code.Full →
    ContentsStandFor s (behind_next s m) side → IsAt s (instruction s m) m.steps count end.OutputFull side
unfolding seq
step_full {D} s m count side taken full h =
    let room : has_no_room s (note_next s m) m.arch ≡ true = full_room s (note_next s m) m.arch full in
    let space : is_full s.output m.arch.output (note_next s m) ≡ true = full_full s (note_next s m) m.arch full in
    record { stands = rw room (rw space at h); steps = rw room refl; taken = rw room taken; end = rw room refl }

pub step_ended : {D : Type 0} (s : Setup) (m : Alone) (count : ℕ) (halt : Halt) (side : Contents D) → m.interrupts ≡ count → stepped_by s.output m.arch.output (note_next s m) ≡ code.Ended halt →
    ContentsStandFor s (behind_next s m) side → IsAt s (instruction s m) (m.steps + 1) count (end_of halt) side
unfolding seq
step_ended {D} s m count halt side taken ended h =
    let room : has_no_room s (note_next s m) m.arch ≡ false = ended_room s (note_next s m) m.arch halt ended in
    let space : is_full s.output m.arch.output (note_next s m) ≡ false = ended_full s (note_next s m) m.arch halt ended in
    record { stands = rw room (rw space at h); steps = rw room refl; taken = rw room taken; end = rw room (ended_end s (note_next s m) m.arch (m.steps + 1) halt ended) }

-- retired instructions and exceptions are all steps
abbrev pub Adds : Alone → Type 0
Adds m = m.exceptions + m.arch.csrs.retired ≡ m.steps

if_adds : (b : Bool) (x y : Alone) → Adds x → Adds y → Adds (if◌then◌else◌ {A = Alone} b x y)
if_adds true x y p q = p
if_adds false x y p q = q

fence_keeps : (s : Setup) (fence : Bool) (a : Arch) → (with_fence s fence a).csrs.retired ≡ a.csrs.retired
unfolding synced
fence_keeps s true a = refl
fence_keeps s false a = refl

pending_adds : (m : Alone) → Adds m → Adds (after_interrupt m)
unfolding trapped
pending_adds m adds = if_adds (is_pending m) (record m { arch = interrupted m.arch; interrupts = m.interrupts + 1 }) m adds adds

instruction_adds : (s : Setup) (m : Alone) → Adds m → Adds (instruction s m)
unfolding seq
instruction_adds s m adds =
    let r = result_at s (Some m.steps) m.arch in
    let f = found_next s m.arch in
    let e = effect f r (Some m.steps) m.arch.pc m.arch in
    if_adds (has_no_room s (note_next s m) m.arch) (record m { end = end.OutputFull })
    (record m { arch = with_fence s (is_fence_result f r) e; steps = m.steps + 1; exceptions = m.exceptions + count_cause r.cause; end = end_after s (note_next s m) (m.steps + 1) })
    adds (omega (arith, fence_keeps s (is_fence_result f r) e, effect_retired f r (Some m.steps) m.arch.pc m.arch))

step_adds : (s : Setup) (m : Alone) → Adds m → Adds (alone_step s m)
unfolding alone_step
step_adds s m adds = if_adds (has_ended m.end) m (instruction s (after_interrupt m)) adds (instruction_adds s (after_interrupt m) (pending_adds m adds))

pub alone_adds : (s : Setup) (n : ℕ) → Adds (alone s n)
unfolding alone alone_start start
alone_adds s zero = refl
alone_adds s (suc n) = step_adds s (alone s n) (alone_adds s n)

-- a run that has ended stays
pub stay_step : (s : Setup) (m : Alone) → has_ended m.end ≡ true → alone_step s m ≡ m
unfolding alone_step
stay_step s m ended = rw ended refl

pub alone_stays : (s : Setup) (n more : ℕ) → has_ended (alone s n).end ≡ true → alone s (more + n) ≡ alone s n
alone_stays s n zero ended = ap (alone s) (zero-add n)
alone_stays s n (suc more) ended =
    let next : suc more + n ≡ suc (more + n) = omega arith in
    let P : Alone → Type 0 = λ m. has_ended m.end ≡ true in
    ap (alone s) next ∙ alone-suc s (more + n) ∙ ap (alone_step s) (alone_stays s n more ended) ∙ stay_step s (alone s n) ended

going_step : (s : Setup) (m : Alone) → has_ended m.end ≡ false → alone_step s m ≡ instruction s (after_interrupt m)
unfolding alone_step
going_step s m going = rw going refl

-- a run that has not ended goes on with the instruction behind its interrupt
pub alone_goes_on : (s : Setup) (n : ℕ) → has_ended (alone s n).end ≡ false → alone s (n + 1) ≡ instruction s (after_interrupt (alone s n))
alone_goes_on s n going = ap (alone s) (add-one n) ∙ alone-suc s n ∙ going_step s (alone s n) going

-- the state behind the interrupt
pub record Ready {D : Type 0} (s : Setup) (m : Alone) (made count : ℕ) (side : Contents D) : Type 0 where
  pub stands : ContentsStandFor s m.arch side
  pub steps : m.steps ≡ made
  pub taken : m.interrupts ≡ count

pub if_arch : (b : Bool) (m : Alone) → (if◌then◌else◌ {A = Alone} b (record m { arch = interrupted m.arch; interrupts = m.interrupts + 1 }) m).arch ≡ (if b then interrupted m.arch else m.arch)
if_arch true m = refl
if_arch false m = refl

pub if_steps : (b : Bool) (m : Alone) → (if◌then◌else◌ {A = Alone} b (record m { arch = interrupted m.arch; interrupts = m.interrupts + 1 }) m).steps ≡ m.steps
if_steps true m = refl
if_steps false m = refl

if_taken : (b : Bool) (m : Alone) → (if◌then◌else◌ {A = Alone} b (record m { arch = interrupted m.arch; interrupts = m.interrupts + 1 }) m).interrupts ≡ m.interrupts + (if b then 1 else 0)
if_taken true m = refl
if_taken false m = sym (add-zero m.interrupts)

pub interrupt_ready : {D : Type 0} (s : Setup) (m : Alone) (made count one : ℕ) (side : Contents D) → m.steps ≡ made → m.interrupts ≡ count →
    one ≡ (if timer_pending m.arch.csrs made (compare_of m.arch.devices) then 1 else 0) → ContentsStandFor s (before made m.arch) side → Ready s (after_interrupt m) made (count + one) side
interrupt_ready {D} s m made count one side steps taken pending h =
    let P : Arch → Type 0 = λ a. ContentsStandFor {D = D} s a side in
    let arch : before made m.arch ≡ (after_interrupt m).arch = ap (λ (k : ℕ). before k m.arch) (sym steps) ∙ sym (if_arch (is_pending m) m) in
    record {
      stands = subst P arch h;
      steps = if_steps (is_pending m) m ∙ steps;
      taken = if_taken (is_pending m) m ∙ ap (λ (n : ℕ). n + (if is_pending m then 1 else 0)) taken
          ∙ ap (λ (k : ℕ). count + (if timer_pending m.arch.csrs k (compare_of m.arch.devices) then 1 else 0)) steps ∙ ap (λ (n : ℕ). count + n) (sym pending);
    }

-- what the side ensured of a step, at the step's number
stepped_at : (s : Setup) (m : Alone) (made : ℕ) (answer : Stepped) → m.steps ≡ made →
    answer ≡ stepped_by s.output m.arch.output (note_of (result_at s (Some made) m.arch) m.arch) → answer ≡ stepped_by s.output m.arch.output (note_next s m)
stepped_at s m made answer steps is = is ∙ ap (λ (k : ℕ). stepped_by s.output m.arch.output (note_of (result_at s (Some k) m.arch) m.arch)) (sym steps)

stands_at : {D : Type 0} (s : Setup) (m : Alone) (made : ℕ) (side : Contents D) → m.steps ≡ made →
    ContentsStandFor s (after_instruction s (found_next s m.arch) (result_at s (Some made) m.arch) made m.arch) side → ContentsStandFor s (behind_next s m) side
stands_at {D} s m made side steps h =
    let P : ℕ → Type 0 = λ k. ContentsStandFor {D = D} s (after_instruction s (found_next s m.arch) (result_at s (Some k) m.arch) k m.arch) side in
    subst P (sym steps) h

pub goes_on : {D : Type 0} (s : Setup) (m : Alone) (made count : ℕ) (answer : Stepped) (ready_side side : Contents D) → Ready s m made count ready_side →
    answer ≡ stepped_by s.output m.arch.output (note_of (result_at s (Some made) m.arch) m.arch) →
    ContentsStandFor s (after_instruction s (found_next s m.arch) (result_at s (Some made) m.arch) made m.arch) side → answer ≡ code.On → IsOnAt s (instruction s m) (made + 1) count side
goes_on {D} s m made count answer ready_side side ready is h on =
    let P : ℕ → Type 0 = λ k. IsOnAt {D = D} s (instruction s m) (k + 1) count side in
    subst P ready.steps (step_on s m count side ready.taken (sym (stepped_at s m made answer ready.steps is) ∙ on) (stands_at s m made side ready.steps h))

pub stops_full : {D : Type 0} (s : Setup) (m : Alone) (made count : ℕ) (answer : Stepped) (ready_side side : Contents D) → Ready s m made count ready_side →
    answer ≡ stepped_by s.output m.arch.output (note_of (result_at s (Some made) m.arch) m.arch) →
    ContentsStandFor s (after_instruction s (found_next s m.arch) (result_at s (Some made) m.arch) made m.arch) side → answer ≡ code.Full → IsAt s (instruction s m) made count end.OutputFull side
stops_full {D} s m made count answer ready_side side ready is h full =
    let P : ℕ → Type 0 = λ k. IsAt {D = D} s (instruction s m) k count end.OutputFull side in
    subst P ready.steps (step_full s m count side ready.taken (sym (stepped_at s m made answer ready.steps is) ∙ full) (stands_at s m made side ready.steps h))

pub stops_ended : {D : Type 0} (s : Setup) (m : Alone) (made count : ℕ) (halt : Halt) (answer : Stepped) (ready_side side : Contents D) → Ready s m made count ready_side →
    answer ≡ stepped_by s.output m.arch.output (note_of (result_at s (Some made) m.arch) m.arch) →
    ContentsStandFor s (after_instruction s (found_next s m.arch) (result_at s (Some made) m.arch) made m.arch) side → answer ≡ code.Ended halt → IsAt s (instruction s m) (made + 1) count (end_of halt) side
stops_ended {D} s m made count halt answer ready_side side ready is h ended =
    let P : ℕ → Type 0 = λ k. IsAt {D = D} s (instruction s m) (k + 1) count (end_of halt) side in
    subst P ready.steps (step_ended s m count halt side ready.taken (sym (stepped_at s m made answer ready.steps is) ∙ ended) (stands_at s m made side ready.steps h))

-- before the limit a run goes on
pub below_limit : (s : Setup) (m : Alone) (made : ℕ) → made < s.cycles → m.end ≡ (if made == s.cycles then end.Limit else end.Running) → has_ended m.end ≡ false
below_limit s m made below is =
    let other : (made == s.cycles) ≡ false = grind (arith, common_steps) in
    ap has_ended (is ∙ ap (λ (b : Bool). if b then end.Limit else end.Running) other)

-- exceptions, from all steps and those that retired
pub exceptions_are : (m : Alone) (made retired : ℕ) → Adds m → m.steps ≡ made → retired ≡ m.arch.csrs.retired → m.exceptions ≡ made - retired
exceptions_are m made retired adds steps same = omega arith

pub end_has_ended : (halt : Halt) → has_ended (end_of halt) ≡ true
end_has_ended halt.Pass = refl
end_has_ended (halt.Fail code) = refl

-- the whole run, where it ended behind step `made`
pub whole_is : (s : Setup) (limit made : ℕ) → made + 1 ≤ limit → has_ended (alone s (made + 1)).end ≡ true → alone s limit ≡ alone s (made + 1)
whole_is s limit made within ended =
    let split : limit ≡ (limit - (made + 1)) + (made + 1) = omega arith in
    ap (alone s) split ∙ alone_stays s (made + 1) (limit - (made + 1)) ended

pub stands_retired : {D : Type 0} (s : Setup) (a : Arch) (side : Contents D) → ContentsStandFor s a side → retired_in side ≡ a.csrs.retired
unfolding arch_of
stands_retired s a side h = ap (λ (x : Arch). x.csrs.retired) h.arch

-- what one step of the side ensures in a run
pub record Steps {D : Type 0} (s : Setup) (made one : ℕ) (answer : Stepped) (now mid next : Contents D) : Type 0 where
  pub pending : (a : Arch) → ContentsStandFor s a now → one ≡ (if timer_pending a.csrs made (compare_of a.devices) then 1 else 0)
  pub interrupted : (a : Arch) → ContentsStandFor s a now → ContentsStandFor s (before made a) mid
  pub stepped : (a : Arch) → ContentsStandFor s a mid → answer ≡ stepped_by s.output a.output (note_of (result_at s (Some made) a) a)
  pub stands : (a : Arch) → ContentsStandFor s a mid → ContentsStandFor s (after_instruction s (found_next s a) (result_at s (Some made) a) made a) next

-- contents that are the same
pub stays : {D : Type 0} (s : Setup) (a : Arch) (old new : Contents D) → new ≡ old → ContentsStandFor s a old → ContentsStandFor s a new
stays {D} s a old new same h =
    let P : Contents D → Type 0 = λ side. ContentsStandFor {D = D} s a side in
    subst P (sym same) h

pub retires : {D : Type 0} {old new : Contents D} → new ≡ old → retired_in new ≡ retired_in old
retires {D} same = ap (λ (side : Contents D). retired_in side) same

going : {D : Type 0} (s : Setup) (made count : ℕ) (now : Contents D) → made < s.cycles → IsOnAt s (alone s made) made count now → has_ended (alone s made).end ≡ false
going s made count now below at = below_limit s (alone s made) made below at.end

readied : {D : Type 0} (s : Setup) (made count one : ℕ) (answer : Stepped) (now mid next : Contents D) → IsOnAt s (alone s made) made count now →
    Steps s made one answer now mid next → Ready s (after_interrupt (alone s made)) made (count + one) mid
readied s made count one answer now mid next at step =
    interrupt_ready s (alone s made) made count one mid at.steps at.taken (step.pending (alone s made).arch at.stands) (step.interrupted (alone s made).arch at.stands)

pub runs_on : {D : Type 0} (s : Setup) (made count one : ℕ) (answer : Stepped) (now mid next : Contents D) → made < s.cycles → IsOnAt s (alone s made) made count now →
    Steps s made one answer now mid next → answer ≡ code.On → IsOnAt s (alone s (made + 1)) (made + 1) (count + one) next
runs_on {D} s made count one answer now mid next below at step on =
    let m : Alone = after_interrupt (alone s made) in
    let ready = readied s made count one answer now mid next at step in
    let P : Alone → Type 0 = λ x. IsOnAt {D = D} s x (made + 1) (count + one) next in
    subst P (sym (alone_goes_on s made (going s made count now below at)))
    (goes_on s m made (count + one) answer mid next ready (step.stepped m.arch ready.stands) (step.stands m.arch ready.stands) on)

pub runs_full : {D : Type 0} (s : Setup) (made count one : ℕ) (answer : Stepped) (now mid next : Contents D) → made < s.cycles → IsOnAt s (alone s made) made count now →
    Steps s made one answer now mid next → answer ≡ code.Full → IsAt s (alone s (made + 1)) made (count + one) end.OutputFull next
runs_full {D} s made count one answer now mid next below at step full =
    let m : Alone = after_interrupt (alone s made) in
    let ready = readied s made count one answer now mid next at step in
    let P : Alone → Type 0 = λ x. IsAt {D = D} s x made (count + one) end.OutputFull next in
    subst P (sym (alone_goes_on s made (going s made count now below at)))
    (stops_full s m made (count + one) answer mid next ready (step.stepped m.arch ready.stands) (step.stands m.arch ready.stands) full)

pub runs_ended : {D : Type 0} (s : Setup) (made count one : ℕ) (halt : Halt) (answer : Stepped) (now mid next : Contents D) → made < s.cycles → IsOnAt s (alone s made) made count now →
    Steps s made one answer now mid next → answer ≡ code.Ended halt → IsAt s (alone s (made + 1)) (made + 1) (count + one) (end_of halt) next
runs_ended {D} s made count one halt answer now mid next below at step ended =
    let m : Alone = after_interrupt (alone s made) in
    let ready = readied s made count one answer now mid next at step in
    let P : Alone → Type 0 = λ x. IsAt {D = D} s x (made + 1) (count + one) (end_of halt) next in
    subst P (sym (alone_goes_on s made (going s made count now below at)))
    (stops_ended s m made (count + one) halt answer mid next ready (step.stepped m.arch ready.stands) (step.stands m.arch ready.stands) ended)

-- a run that stopped after step `made` stands so after any more steps
pub rests : {D : Type 0} (s : Setup) (to made steps count : ℕ) (how : End) (side : Contents D) → made + 1 ≤ to → has_ended how ≡ true →
    IsAt s (alone s (made + 1)) steps count how side → IsAt s (alone s to) steps count how side
rests {D} s to made steps count how side within ended at =
    let P : Alone → Type 0 = λ m. IsAt {D = D} s m steps count how side in
    subst P (sym (whole_is s to made within (ap has_ended at.end ∙ ended))) at
