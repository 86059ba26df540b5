-- What the columns of a count add up to: the counts of the run alone.
use Rattle.std.proofs.Common.{◌≡◌, ◌∙◌, ℕ, zero, suc, ◌+◌, Bool, true, false, not, List, [], ◌∷◌, ◌++◌, length, Option, Some, None, is_none, refl, sym, ap, subst, arith, length-append}
use Rattle.std.specs.Prelude.{◌==◌, if◌then◌else◌}
use Rattle.std.proofs.lemmas.Grind.{flat_map-append}
use Rattle.std.proofs.lemmas.List.{append-nil}
use Rattle.std.proofs.lemmas.List.Sums.{sum_by-append}
use Rattle.fsim_base.specs.declared.cause.Cause.{Cause}
use Rattle.elf_image.specs.declared.image.Image.{Image}
use Rattle.mono_model.specs.declared.setup.Setup.{Setup}
use Rattle.mono_model.specs.Arch.{interrupted}
use Rattle.mono_model.specs.Effect.{note_of}
use Rattle.mono_model.specs.Final.{has_ended}
use Rattle.mono_model.specs.Sequence.{result_at}
use Rattle.mono_model.specs.Alone.{Alone, after_interrupt, alone, alone_start, alone_step, count_cause, has_no_room, instruction, is_pending}
use Rattle.mono_model.proofs.Next.{alone-suc}
use Rattle.func_model.proofs.Running.{alone_adds, if_steps, stay_step}
use Rattle.insight_model.specs.Count.{Executed, executed_by, executed_events, executed_if, executed_in}
use Rattle.insight_model.specs.Profile.{Column, Event, amount_in, column_place, goes_on, retired, row_of, trapped}
use Rattle.insight_laws.proofs.RowSums.{rows_add_up}
use Rattle.instruction_count.specs.Counted.{column_total, run_events}
use Rattle.instruction_count.proofs.Amounts.{events_by, trapped_amount, trapped_by}
use Rattle.instruction_count.proofs.Runs.{executed_to, last_ended, last_going, last_of, next_to, none_to}

both : (column : Column) (es fs : List Event) → amount_in column (es ++ fs) ≡ amount_in column es + amount_in column fs
both column es fs = sum_by-append (λ (e : Event). if column_place e.column == column_place column then e.amount else 0) es fs

-- an instruction retires, or it traps
one_of : (trap on : Bool) (row : ℕ) → amount_in retired (events_by trap on row) + amount_in trapped (events_by trap on row) ≡ 1
one_of true on row = refl
one_of false true row = refl
one_of false false row = refl

all_counted : (image : Image) (run : List Executed) → amount_in retired (run_events image run) + amount_in trapped (run_events image run) ≡ length run
all_counted image [] = refl
all_counted image (x ∷ run) =
    let es = executed_events image x in
    let fs = run_events image run in
    let one : amount_in retired es + amount_in trapped es ≡ 1 = one_of x.has_trapped (goes_on x.addr x.next) (row_of image x.addr) in
    omega (arith, both retired es fs, both trapped es fs, one, all_counted image run)

cause_is : (cause : Option Cause) → count_cause cause ≡ trapped_by (not (is_none cause))
cause_is None = refl
cause_is (Some cause) = refl

trap_counted : (image : Image) (x : Executed) → amount_in trapped (run_events image (x ∷ [])) ≡ trapped_by x.has_trapped
trap_counted image x =
    ap (amount_in trapped) (append-nil (executed_events image x)) ∙ trapped_amount x.has_trapped (goes_on x.addr x.next) (row_of image x.addr)

-- what a step counts, by its instructions
record Adds (image : Image) (run : List Executed) (before after : Alone) : Type 0 where
  steps : after.steps ≡ before.steps + length run
  exceptions : after.exceptions ≡ before.exceptions + amount_in trapped (run_events image run)

instruction_adds : (s : Setup) (m : Alone) → Adds s.image (executed_if s m.arch (result_at s (Some m.steps) m.arch)) m (instruction s m)
instruction_adds s m = by (has_no_room s (note_of (result_at s (Some m.steps) m.arch) m.arch) m.arch) refl
  where
    by : (b : Bool) → has_no_room s (note_of (result_at s (Some m.steps) m.arch) m.arch) m.arch ≡ b
        → Adds s.image (executed_if s m.arch (result_at s (Some m.steps) m.arch)) m (instruction s m)
    by true full = record { steps = rw full (omega arith); exceptions = rw full (omega arith) }
    by false room = record {
      steps = rw room refl;
      exceptions = rw room (ap (λ (n : ℕ). m.exceptions + n) (cause_is (result_at s (Some m.steps) m.arch).cause ∙ sym (trap_counted s.image (executed_by s m.arch (result_at s (Some m.steps) m.arch)))));
    }

if_exceptions : (b : Bool) (m : Alone) → (if◌then◌else◌ {A = Alone} b (record m { arch = interrupted m.arch; interrupts = m.interrupts + 1 }) m).exceptions ≡ m.exceptions
if_exceptions true m = refl
if_exceptions false m = refl

going_step : (s : Setup) (m : Alone) → has_ended m.end ≡ false → alone_step s m ≡ instruction s (after_interrupt m)
unfolding alone_step
going_step s m going = rw going refl

in_adds : (s : Setup) (m : Alone) → Adds s.image (executed_in s m) (after_interrupt m) (instruction s (after_interrupt m))
in_adds s m =
    let r : Alone = after_interrupt m in
    let P : ℕ → Type 0 = λ n. Adds s.image (executed_if s r.arch (result_at s (Some n) r.arch)) r (instruction s r) in
    subst P (if_steps (is_pending m) m) (instruction_adds s r)

step_adds : (s : Setup) (m : Alone) → Adds s.image (last_of s m) m (alone_step s m)
step_adds s m = by (has_ended m.end) refl
  where
    by : (b : Bool) → has_ended m.end ≡ b → Adds s.image (last_of s m) m (alone_step s m)
    by true ended =
        let none = last_ended s m ended in
        let few : length (last_of s m) ≡ 0 = ap (length {A = Executed}) none in
        let no_traps : amount_in trapped (run_events s.image (last_of s m)) ≡ 0 = ap (λ (xs : List Executed). amount_in trapped (run_events s.image xs)) none in
        let same = stay_step s m ended in
        let steps : (alone_step s m).steps ≡ m.steps = ap (λ (a : Alone). a.steps) same in
        let exceptions : (alone_step s m).exceptions ≡ m.exceptions = ap (λ (a : Alone). a.exceptions) same in
        record { steps = omega (arith, steps, few); exceptions = omega (arith, exceptions, no_traps) }
    by false going =
        let on = last_going s m going in
        let adds = in_adds s m in
        let many : length (last_of s m) ≡ length (executed_in s m) = ap (length {A = Executed}) on in
        let traps : amount_in trapped (run_events s.image (last_of s m)) ≡ amount_in trapped (run_events s.image (executed_in s m)) = ap (λ (xs : List Executed). amount_in trapped (run_events s.image xs)) on in
        let next = going_step s m going in
        let steps : (alone_step s m).steps ≡ (instruction s (after_interrupt m)).steps = ap (λ (a : Alone). a.steps) next in
        let exceptions : (alone_step s m).exceptions ≡ (instruction s (after_interrupt m)).exceptions = ap (λ (a : Alone). a.exceptions) next in
        record {
          steps = omega (arith, steps, adds.steps, many, if_steps (is_pending m) m);
          exceptions = omega (arith, exceptions, adds.exceptions, traps, if_exceptions (is_pending m) m);
        }

-- and what all steps count
steps_are : (s : Setup) (made : ℕ) → (alone s made).steps ≡ length (executed_to s made)
unfolding alone alone_start
steps_are s zero = sym (ap (length {A = Executed}) (none_to s))
steps_are s (suc made) =
    let next : (alone s (suc made)).steps ≡ (alone_step s (alone s made)).steps = ap (λ (m : Alone). m.steps) (alone-suc s made) in
    let more : length (executed_to s (suc made)) ≡ length (executed_to s made ++ last_of s (alone s made)) = ap (length {A = Executed}) (next_to s made) in
    omega (arith, next, more, length-append (executed_to s made) (last_of s (alone s made)), (step_adds s (alone s made)).steps, steps_are s made)

exceptions_are : (s : Setup) (made : ℕ) → (alone s made).exceptions ≡ amount_in trapped (run_events s.image (executed_to s made))
unfolding alone alone_start
exceptions_are s zero = sym (ap (λ (xs : List Executed). amount_in trapped (run_events s.image xs)) (none_to s))
exceptions_are s (suc made) =
    let run = executed_to s made in
    let last = last_of s (alone s made) in
    let next : (alone s (suc made)).exceptions ≡ (alone_step s (alone s made)).exceptions = ap (λ (m : Alone). m.exceptions) (alone-suc s made) in
    let more : amount_in trapped (run_events s.image (executed_to s (suc made))) ≡ amount_in trapped (run_events s.image run ++ run_events s.image last) =
    ap (λ (xs : List Executed). amount_in trapped (run_events s.image xs)) (next_to s made) ∙ ap (amount_in trapped) (flat_map-append (executed_events s.image) run last) in
    omega (arith, next, more, both trapped (run_events s.image run) (run_events s.image last), (step_adds s (alone s made)).exceptions, exceptions_are s made)

pub exceptions_total : (s : Setup) → column_total trapped s ≡ (alone s s.cycles).exceptions
exceptions_total s = rows_add_up trapped (run_events s.image (executed_to s s.cycles)) ∙ sym (exceptions_are s s.cycles)

pub retired_total : (s : Setup) → column_total retired s ≡ (alone s s.cycles).arch.csrs.retired
retired_total s =
    let all = run_events s.image (executed_to s s.cycles) in
    rows_add_up retired all ∙ omega (arith, all_counted s.image (executed_to s s.cycles), steps_are s s.cycles, exceptions_are s s.cycles, alone_adds s s.cycles)
