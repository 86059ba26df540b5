-- A run has ended by its last step.
use Rattle.std.proofs.Common.{◌≡◌, ◌≢◌, ℕ, zero, suc, ◌+◌, ◌<◌, ◌==◌, ◌++◌, List, Bool, true, false, Some, if◌then◌else◌, refl, ap, sym, ◌∙◌, subst, arith}
use Rattle.fsim_base.specs.declared.instruction.Halt.TheVariants as halt
use Rattle.device_bus.specs.declared.undo.Note.{Note}
use Rattle.device_bus.specs.declared.undo.Note.TheVariants as note
use Rattle.mono_model.specs.declared.setup.Setup.{Setup}
use Rattle.mono_model.specs.declared.final_state.End.{End}
use Rattle.mono_model.specs.declared.final_state.End.TheVariants.{Pass, Fail, Limit, OutputFull, Running}
use Rattle.mono_model.specs.declared.final_state.Final.{Final}
use Rattle.mono_model.specs.Report.{closed_output, func_report_text}
use Rattle.report_text.specs.FuncText.{func_text}
use Rattle.fast_jobs.specs.Outcome.{whole_run}
use Rattle.mono_model.specs.Final.{has_ended}
use Rattle.mono_model.specs.Sequence.{result_at}
use Rattle.mono_model.specs.Effect.{note_of}
use Rattle.mono_model.specs.Alone.{Alone, alone, alone_start, alone_step, after_interrupt, alone_final, is_pending, end_after, instruction, has_no_room}

-- a state that goes on, with this many steps made, the last of which was not the last of the run
record GoesOn (s : Setup) (made : ℕ) (m : Alone) : Type 0 where
  steps : m.steps ≡ made
  more : 0 < made → made ≢ s.cycles

limit_or_on : (made cycles : ℕ) → (if made == cycles then Limit else Running) ≡ Running → made ≢ cycles
limit_or_on made cycles on same = let hit : (made == cycles) ≡ true = grind (arith, same) in let e : Limit ≡ Running = sym (ap (λ b. if b then Limit else Running) hit) ∙ on in cc

end_after-on : (s : Setup) (n : Note) (made : ℕ) → end_after s n made ≡ Running → made ≢ s.cycles
end_after-on s note.Nothing made on = limit_or_on made s.cycles on
end_after-on s (note.Out byte) made on = limit_or_on made s.cycles on
end_after-on s (note.End halt.Pass) made on = cc
end_after-on s (note.End (halt.Fail code)) made on = cc

full_or_on : (s : Setup) (made : ℕ) (b : Bool) (full next : Alone) → full.end ≡ OutputFull → next.steps ≡ made → (next.end ≡ Running → made ≢ s.cycles) → (if b then full else next).end ≡ Running → GoesOn s made (if b then full else next)
full_or_on s made true full next is_full steps more on = let e : OutputFull ≡ Running = sym is_full ∙ on in cc
full_or_on s made false full next is_full steps more on = record { steps = steps; more = λ some. more on }

interrupt-steps : (b : Bool) (m taken : Alone) → taken.steps ≡ m.steps → (if b then taken else m).steps ≡ m.steps
interrupt-steps true m taken same = same
interrupt-steps false m taken same = refl

instruction-on : (s : Setup) (m : Alone) → (instruction s m).end ≡ Running → GoesOn s (m.steps + 1) (instruction s m)
instruction-on s m on =
    let note = note_of (result_at s (Some m.steps) m.arch) m.arch in
    full_or_on s (m.steps + 1) (has_no_room s note m.arch) _ _ refl refl (end_after-on s note (m.steps + 1)) on

after_interrupt-steps : (m : Alone) → (after_interrupt m).steps ≡ m.steps
after_interrupt-steps m = interrupt-steps (is_pending m) m _ refl

ended_or_on : (s : Setup) (m : Alone) (e : End) → m.end ≡ e → (if has_ended e then m else instruction s (after_interrupt m)).end ≡ Running → (m.end ≡ Running) × ((instruction s (after_interrupt m)).end ≡ Running)
ended_or_on s m Running is on = (is, on)
ended_or_on s m Pass is on = let e : Pass ≡ Running = sym is ∙ on in cc
ended_or_on s m (Fail code) is on = let e : Fail code ≡ Running = sym is ∙ on in cc
ended_or_on s m Limit is on = let e : Limit ≡ Running = sym is ∙ on in cc
ended_or_on s m OutputFull is on = let e : OutputFull ≡ Running = sym is ∙ on in cc

alone_step-on : (s : Setup) (m : Alone) → (alone_step s m).end ≡ Running → (m.end ≡ Running) × GoesOn s (m.steps + 1) (alone_step s m)
unfolding alone_step
alone_step-on s m on =
    let both = ended_or_on s m m.end refl on in
    let P : Alone → Type 0 = λ next. GoesOn s (m.steps + 1) next in
    let Q : ℕ → Type 0 = λ made. GoesOn s (made + 1) (instruction s (after_interrupt m)) in
    let same : instruction s (after_interrupt m) ≡ (if has_ended m.end then m else instruction s (after_interrupt m)) = sym (ap (λ e. if has_ended e then m else instruction s (after_interrupt m)) both.0) in
    (both.0, subst P same (subst Q (after_interrupt-steps m) (instruction-on s (after_interrupt m) both.1)))

alone_start-on : (s : Setup) → GoesOn s 0 (alone_start s)
unfolding alone_start
alone_start-on s = record { steps = refl; more = λ some. absurd (omega arith) }

alone-on : (s : Setup) (n : ℕ) → (alone s n).end ≡ Running → GoesOn s n (alone s n)
unfolding alone
alone-on s zero on = alone_start-on s
alone-on s (suc n) on =
    let next = alone_step-on s (alone s n) on in
    let before = alone-on s n next.0 in
    let P : ℕ → Type 0 = λ made. GoesOn s made (alone_step s (alone s n)) in
    let made : (alone s n).steps + 1 ≡ suc n = omega (arith, before.steps) in
    subst P made next.1

-- after all its steps a run has ended
pub whole_run-ended : (s : Setup) → 0 < s.cycles → (whole_run s).end ≢ Running
unfolding whole_run
whole_run-ended s some on = (alone-on s s.cycles on).more some refl

alone_final-end : (m : Alone) → (alone_final m).end ≡ m.end
unfolding alone_final
alone_final-end m = refl

-- how it ended and what is written of it, by its output and its final state
pub whole_run-end : (s : Setup) (last : Final) → last ≡ alone_final (whole_run s) → (whole_run s).end ≡ last.end
whole_run-end s last same = sym (ap (λ (f : Final). f.end) same ∙ alone_final-end (whole_run s))

pub whole_run-text : (s : Setup) (output : List ℕ) (last : Final) → output ≡ (whole_run s).arch.output → last ≡ alone_final (whole_run s) → func_text s ≡ closed_output output ++ func_report_text last
unfolding func_text whole_run
whole_run-text s output last same_output same_last = λ i. closed_output (sym same_output i) ++ func_report_text (sym same_last i)
