-- The committed output only grows: that of the run alone, step by step, and the machine's, cycle by cycle.
use Rattle.std.proofs.Common.{◌≡◌, ℕ, zero, suc, ◌+◌, ◌≤◌, Bool, true, false, Option, Some, refl, sym, ◌∙◌, subst}
use Rattle.std.proofs.lemmas.Bool.{cond_both}
use Rattle.mono_model.specs.declared.setup.Setup.{Setup}
use Rattle.mono_model.specs.declared.final_state.End.TheVariants.{OutputFull}
use Rattle.mono_model.specs.Arch.{Arch, trapped, interrupted, synced}
use Rattle.mono_model.specs.Effect.{note_of, is_fence_result}
use Rattle.mono_model.specs.Sequence.{found_next, result_at, seq}
use Rattle.mono_model.specs.Final.{has_ended}
use Rattle.mono_model.specs.Alone.{Alone, is_pending, after_interrupt, has_no_room, with_fence, end_after, count_cause, instruction, alone_step, alone}
use Rattle.mono_model.specs.Machine.{Machine}
use Rattle.mono_model.specs.Interrupt.{interrupt_phase}
use Rattle.mono_model.specs.Commit.{commit_phase}
use Rattle.mono_model.specs.Complete.{complete_phase}
use Rattle.mono_model.specs.Issue.{issue_phase}
use Rattle.mono_model.specs.Fetch.{Try, misses, appends, turns, may_fetch, fetch_try, after_try, fetches, fetch_phase}
use Rattle.mono_model.specs.Cycle.{phases, end_of_cycle, cycled, mono}
use Rattle.mono_model.proofs.Next.{alone-suc, mono-suc}
use Rattle.machine_laws.specs.Output.{GrowsTo}
use Rattle.machine_laws.proofs.Growing.{grows_none, grows_by_none, grows_on, grows_to, effect_grows}
use Rattle.machine_laws.proofs.OutputRoom.{cycle_end_arch}
use Rattle.machine_laws.proofs.Phases.{interrupt_output, commit_from, complete_kept, issue_kept, Tries, try_tries}

-- The run alone.
interrupt_alone : (m : Alone) → (after_interrupt m).arch.output ≡ m.arch.output
unfolding trapped
interrupt_alone m =
    cond_both (is_pending m) (record m { arch = interrupted m.arch; interrupts = m.interrupts + 1 }) m
    (λ x. x.arch.output ≡ m.arch.output) (λ pending. refl) (λ none. refl)

fence_output : (s : Setup) (fence : Bool) (a : Arch) → (with_fence s fence a).output ≡ a.output
unfolding synced
fence_output s true a = refl
fence_output s false a = refl

pub seq_grows : (s : Setup) (time : Option ℕ) (a : Arch) → GrowsTo a.output (seq s time a).output
unfolding seq
seq_grows s time a = effect_grows (found_next s a) (result_at s time a) time a.pc a

instruction_grows : (s : Setup) (m : Alone) → GrowsTo m.arch.output (instruction s m).arch.output
instruction_grows s m =
    let r = result_at s (Some m.steps) m.arch in
    let fence = is_fence_result (found_next s m.arch) r in
    let a = seq s (Some m.steps) m.arch in
    cond_both (has_no_room s (note_of r m.arch) m.arch) (record m { end = OutputFull })
    (record m {
      arch = with_fence s fence a;
      steps = m.steps + 1;
      exceptions = m.exceptions + count_cause r.cause;
      end = end_after s (note_of r m.arch) (m.steps + 1);
    })
    (λ x. GrowsTo m.arch.output x.arch.output)
    (λ full. grows_none m.arch.output)
    (λ room. grows_on m.arch.output a.output (with_fence s fence a).output
    (seq_grows s (Some m.steps) m.arch) (grows_by_none a.output (with_fence s fence a).output (fence_output s fence a)))

step_grows : (s : Setup) (m : Alone) → GrowsTo m.arch.output (alone_step s m).arch.output
unfolding alone_step
step_grows s m =
    let next = after_interrupt m in
    cond_both (has_ended m.end) m (instruction s next) (λ x. GrowsTo m.arch.output x.arch.output)
    (λ ended. grows_none m.arch.output)
    (λ on. grows_on m.arch.output next.arch.output (instruction s next).arch.output
    (grows_by_none m.arch.output next.arch.output (interrupt_alone m)) (instruction_grows s next))

pub alone_grows : (s : Setup) (n m : ℕ) → n ≤ m → GrowsTo (alone s n).arch.output (alone s m).arch.output
alone_grows s =
    grows_to (λ (m : Alone). m.arch.output) (alone s)
    (λ n. subst (λ (m : Alone). GrowsTo (alone s n).arch.output m.arch.output) (sym (alone-suc s n)) (step_grows s (alone s n)))

-- The machine: only commit sends bytes.
pub after_arch : (t : Try) (m : Machine) (go_on : Machine → Machine) → Tries m t
    → ((behind : Machine) → (go_on behind).arch ≡ behind.arch)
    → (after_try t go_on).arch ≡ m.arch
after_arch (misses behind) m go_on is on = is.arch
after_arch (appends behind) m go_on is on = on behind ∙ is.arch
after_arch (turns behind) m go_on is on = is.arch

fetches_arch : (s : Setup) (more : ℕ) (m : Machine) → (fetches s more m).arch ≡ m.arch
unfolding fetches
fetches_arch s zero m = refl
fetches_arch s (suc more) m =
    let go_on : Machine → Machine = λ behind. fetches s more behind in
    cond_both (may_fetch s m) (after_try (fetch_try s m) go_on) m (λ x. x.arch ≡ m.arch)
    (λ may. after_arch (fetch_try s m) m go_on (try_tries s m) (fetches_arch s more)) (λ stays. refl)

phases_grow : (s : Setup) (m : Machine) → GrowsTo m.arch.output (phases s m).arch.output
unfolding fetch_phase
phases_grow s m =
    let i = interrupt_phase m in
    let c = (commit_phase s i).machine in
    let sent : GrowsTo m.arch.output c.arch.output =
    grows_on m.arch.output i.arch.output c.arch.output
    (grows_by_none m.arch.output i.arch.output (interrupt_output m)) (commit_from s i).grows in
    let issued = issue_phase s (complete_phase c) in
    let kept : (fetch_phase s issued).arch ≡ c.arch =
    fetches_arch s s.params.core_fetch issued ∙ (issue_kept s (complete_phase c)).arch ∙ (complete_kept c).arch in
    cond_both (has_ended c.end) c (fetch_phase s issued) (λ x. GrowsTo m.arch.output x.arch.output)
    (λ ended. sent) (λ on. subst (λ (a : Arch). GrowsTo m.arch.output a.output) (sym kept) sent)

cycle_grows : (s : Setup) (m : Machine) → GrowsTo m.arch.output (cycled s m).arch.output
unfolding cycled
cycle_grows s m =
    cond_both (has_ended m.end) m (end_of_cycle s (phases s m)) (λ x. GrowsTo m.arch.output x.arch.output)
    (λ ended. grows_none m.arch.output)
    (λ on. subst (λ (a : Arch). GrowsTo m.arch.output a.output) (sym (cycle_end_arch s (phases s m))) (phases_grow s m))

pub mono_grows : (s : Setup) (c d : ℕ) → c ≤ d → GrowsTo (mono s c).arch.output (mono s d).arch.output
mono_grows s =
    grows_to (λ (m : Machine). m.arch.output) (mono s)
    (λ c. subst (λ (m : Machine). GrowsTo (mono s c).arch.output m.arch.output) (sym (mono-suc s c)) (cycle_grows s (mono s c)))
