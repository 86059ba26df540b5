-- The instructions of a run alone, step by step.
use Rattle.std.proofs.Common.{◌≡◌, ◌∙◌, ℕ, zero, suc, ◌+◌, ◌≤◌, Bool, true, false, not, List, [], ◌∷◌, ◌++◌, length, Option, Some, None, is_some, is_none, refl, sym, ap, append_assoc, ◌-◌, add-one, add-zero, arith, length-append}
use Rattle.std.specs.Prelude.{if◌then◌else◌}
use Rattle.std.proofs.lemmas.List.{append-nil}
use Rattle.fsim_base.specs.declared.cause.Cause.{Cause}
use Rattle.mono_model.specs.declared.setup.Setup.{Setup}
use Rattle.mono_model.specs.Arch.{Arch}
use Rattle.mono_model.specs.Effect.{effect, effect_by, note_of, retired}
use Rattle.mono_model.specs.Sequence.{found_next, result_at, seq}
use Rattle.mono_model.specs.Alone.{Alone, after_interrupt, alone, alone_start, alone_step, has_no_room, instruction, is_pending}
use Rattle.mono_model.specs.Final.{has_ended}
use Rattle.mono_model.proofs.Next.{alone-suc}
use Rattle.func_model.specs.Contents.{before}
use Rattle.func_model.specs.History.{IsReached, walk}
use Rattle.func_model.specs.Told.{Ended, Full, IsToldOver, executed_at, lacks_room}
use Rattle.func_model.proofs.Running.{alone_goes_on, alone_stays, if_arch, if_steps}
use Rattle.insight_model.specs.Count.{Executed, executed_by, executed_from, executed_if, executed_in}
use Rattle.instruction_count.specs.Counted.{Tells}

-- the instructions of a step, unless the run has ended
abbrev pub unless : Bool → List Executed → List Executed
unless ended run = elim ended [ true ↦ [] | false ↦ run ]

-- no instruction of a run that has ended
none_from : (s : Setup) (more : ℕ) (m : Alone) → has_ended m.end ≡ true → executed_from s more m ≡ []
unfolding executed_from
none_from s zero m ended = refl
none_from s (suc more) m ended = ap (λ (b : Bool). unless b (executed_in s m ++ executed_from s more (alone_step s m))) ended

-- one more step
step_from : (s : Setup) (more : ℕ) (m : Alone) → has_ended m.end ≡ false → executed_from s (suc more) m ≡ executed_in s m ++ executed_from s more (alone_step s m)
unfolding executed_from
step_from s more m going = ap (λ (b : Bool). unless b (executed_in s m ++ executed_from s more (alone_step s m))) going

zero_from : (s : Setup) (m : Alone) → executed_from s zero m ≡ []
unfolding executed_from
zero_from s m = refl

-- the instructions of the step at a state
abbrev pub last_of : Setup → Alone → List Executed
last_of s m = unless (has_ended m.end) (executed_in s m)

pub last_ended : (s : Setup) (m : Alone) → has_ended m.end ≡ true → last_of s m ≡ []
last_ended s m ended = ap (λ (b : Bool). unless b (executed_in s m)) ended

pub last_going : (s : Setup) (m : Alone) → has_ended m.end ≡ false → last_of s m ≡ executed_in s m
last_going s m going = ap (λ (b : Bool). unless b (executed_in s m)) going

stays_ended : (s : Setup) (k n : ℕ) → has_ended (alone s k).end ≡ true → has_ended (alone s (k + n)).end ≡ true
stays_ended s k n ended =
    let turned : k + n ≡ n + k = omega arith in
    ap (λ (j : ℕ). has_ended (alone s j).end) turned ∙ ap (λ (m : Alone). has_ended m.end) (alone_stays s k n ended) ∙ ended

-- one more step at the end of several
more_from : (s : Setup) (n k : ℕ) → executed_from s (suc n) (alone s k) ≡ executed_from s n (alone s k) ++ last_of s (alone s (k + n))
more_from s zero k = first (has_ended (alone s k).end) refl
  where
    same : alone s (k + zero) ≡ alone s k
    same = ap (alone s) (add-zero k)

    first : (b : Bool) → has_ended (alone s k).end ≡ b → executed_from s (suc zero) (alone s k) ≡ executed_from s zero (alone s k) ++ last_of s (alone s (k + zero))
    first true ended =
        none_from s (suc zero) (alone s k) ended
        ∙ sym (ap (λ (xs : List Executed). xs ++ last_of s (alone s (k + zero))) (zero_from s (alone s k)) ∙ ap (last_of s) same ∙ last_ended s (alone s k) ended)
    first false going =
        step_from s zero (alone s k) going
        ∙ ap (λ (xs : List Executed). executed_in s (alone s k) ++ xs) (zero_from s (alone_step s (alone s k)))
        ∙ append-nil (executed_in s (alone s k))
        ∙ sym (ap (λ (xs : List Executed). xs ++ last_of s (alone s (k + zero))) (zero_from s (alone s k)) ∙ ap (last_of s) same ∙ last_going s (alone s k) going)
more_from s (suc n) k = next (more_from s n (suc k)) (has_ended (alone s k).end) refl
  where
    stepped : alone_step s (alone s k) ≡ alone s (suc k)
    stepped = sym (alone-suc s k)

    place : suc k + n ≡ k + suc n
    place = omega arith

    next : executed_from s (suc n) (alone s (suc k)) ≡ executed_from s n (alone s (suc k)) ++ last_of s (alone s (suc k + n)) → (b : Bool) → has_ended (alone s k).end ≡ b → executed_from s (suc (suc n)) (alone s k) ≡ executed_from s (suc n) (alone s k) ++ last_of s (alone s (k + suc n))
    next rest true ended =
        none_from s (suc (suc n)) (alone s k) ended
        ∙ sym (ap (λ (xs : List Executed). xs ++ last_of s (alone s (k + suc n))) (none_from s (suc n) (alone s k) ended)
        ∙ last_ended s (alone s (k + suc n)) (stays_ended s k (suc n) ended))
    next rest false going =
        step_from s (suc n) (alone s k) going
        ∙ ap (λ (m : Alone). executed_in s (alone s k) ++ executed_from s (suc n) m) stepped
        ∙ ap (λ (xs : List Executed). executed_in s (alone s k) ++ xs) rest
        ∙ sym (append_assoc (executed_in s (alone s k)) (executed_from s n (alone s (suc k))) (last_of s (alone s (suc k + n))))
        ∙ ap (λ (j : ℕ). (executed_in s (alone s k) ++ executed_from s n (alone s (suc k))) ++ last_of s (alone s j)) place
        ∙ ap (λ (m : Alone). (executed_in s (alone s k) ++ executed_from s n m) ++ last_of s (alone s (k + suc n))) (sym stepped)
        ∙ ap (λ (xs : List Executed). xs ++ last_of s (alone s (k + suc n))) (sym (step_from s n (alone s k) going))

-- the instructions of the first steps of a run
abbrev pub executed_to : Setup → ℕ → List Executed
executed_to s made = executed_from s made (alone_start s)

pub next_to : (s : Setup) (made : ℕ) → executed_to s (suc made) ≡ executed_to s made ++ last_of s (alone s made)
unfolding alone
next_to s made = more_from s made 0 ∙ ap (λ (j : ℕ). executed_from s made (alone s 0) ++ last_of s (alone s j)) (omega arith)

pub none_to : (s : Setup) → executed_to s 0 ≡ []
none_to s = zero_from s (alone_start s)

full_instruction : (s : Setup) (m : Alone) → has_no_room s (note_of (result_at s (Some m.steps) m.arch) m.arch) m.arch ≡ true → has_ended (instruction s m).end ≡ true
full_instruction s m full = rw full refl

some_is : (cause : Option Cause) → is_some cause ≡ not (is_none cause)
some_is None = refl
some_is (Some cause) = refl

none_by : (cause : Option Cause) → not (is_none cause) ≡ false → cause ≡ None
none_by None is = refl
none_by (Some cause) is = let e : true ≡ false = is in cc

next_by : (s : Setup) (time : ℕ) (a : Arch) → not (is_none (result_at s (Some time) a).cause) ≡ false → (seq s (Some time) a).pc ≡ (result_at s (Some time) a).next
unfolding seq effect retired
next_by s time a is =
    let r = result_at s (Some time) a in
    ap (λ (cause : Option Cause). (effect_by cause (found_next s a) r (Some time) a.pc a).pc) (none_by r.cause is)

-- the instruction of the step after so many
abbrev pub instruction_of : Setup → ℕ → Executed
instruction_of s made = executed_by s (before made (walk s made)) (result_at s (Some made) (before made (walk s made)))

-- what is told of a step is its instruction
pub told_of : (s : Setup) (made : ℕ) → Tells (executed_at s made) (executed_by s (before made (walk s made)) (result_at s (Some made) (before made (walk s made))))
told_of s made = record {
  addr = refl;
  word = refl;
  trap = some_is (result_at s (Some made) (before made (walk s made))).cause;
  next = λ is. next_by s made (before made (walk s made)) is;
}

module _ (s : Setup) (made : ℕ) (reached : IsReached s made) where
  ready_steps : (after_interrupt (alone s made)).steps ≡ made
  ready_steps = if_steps (is_pending (alone s made)) (alone s made) ∙ reached

  ready_arch : (after_interrupt (alone s made)).arch ≡ before made (walk s made)
  ready_arch = if_arch (is_pending (alone s made)) (alone s made) ∙ ap (λ (k : ℕ). before k (walk s made)) reached

  in_is : executed_in s (alone s made) ≡ executed_if s (before made (walk s made)) (result_at s (Some made) (before made (walk s made)))
  in_is = λ i. executed_if s (ready_arch i) (result_at s (Some (reached i)) (ready_arch i))

  room_is : has_no_room s (note_of (result_at s (Some (after_interrupt (alone s made)).steps) (after_interrupt (alone s made)).arch) (after_interrupt (alone s made)).arch) (after_interrupt (alone s made)).arch
      ≡ lacks_room s made
  room_is = λ i. has_no_room s (note_of (result_at s (Some (ready_steps i)) (ready_arch i)) (ready_arch i)) (ready_arch i)

  full_in : lacks_room s made ≡ true → executed_in s (alone s made) ≡ []
  full_in full = in_is ∙ rw full refl

  room_in : lacks_room s made ≡ false → executed_in s (alone s made) ≡ executed_by s (before made (walk s made)) (result_at s (Some made) (before made (walk s made))) ∷ []
  room_in room = in_is ∙ rw room refl

  full_next : has_ended (alone s made).end ≡ false → lacks_room s made ≡ true → has_ended (alone s (made + 1)).end ≡ true
  full_next going full =
      ap (λ (m : Alone). has_ended m.end) (alone_goes_on s made going)
      ∙ full_instruction s (after_interrupt (alone s made)) (room_is ∙ full)

  -- a step that is made
  pub on_to : has_ended (alone s made).end ≡ false → lacks_room s made ≡ false →
      executed_to s (made + 1) ≡ executed_to s made ++ executed_by s (before made (walk s made)) (result_at s (Some made) (before made (walk s made))) ∷ []
  on_to going room =
      ap (executed_to s) (add-one made) ∙ next_to s made
      ∙ ap (λ (xs : List Executed). executed_to s made ++ xs) (last_going s (alone s made) going ∙ room_in room)

  -- none is made any more
  none_later : IsToldOver s made → (more : ℕ) → last_of s (alone s (made + more)) ≡ []
  none_later (Ended ended) more = last_ended s (alone s (made + more)) (stays_ended s made more ended)
  none_later (Full going full) zero = ap (λ (k : ℕ). last_of s (alone s k)) (add-zero made) ∙ last_going s (alone s made) going ∙ full_in full
  none_later (Full going full) (suc more) =
      let place : made + suc more ≡ (made + 1) + more = omega arith in
      ap (λ (k : ℕ). last_of s (alone s k)) place
      ∙ last_ended s (alone s ((made + 1) + more)) (stays_ended s (made + 1) more (full_next going full))

  over_to : IsToldOver s made → (more : ℕ) → executed_to s (made + more) ≡ executed_to s made
  over_to over zero = ap (executed_to s) (add-zero made)
  over_to over (suc more) =
      let place : made + suc more ≡ suc (made + more) = omega arith in
      ap (executed_to s) place ∙ next_to s (made + more)
      ∙ ap (λ (xs : List Executed). executed_to s (made + more) ++ xs) (none_later over more)
      ∙ append-nil (executed_to s (made + more))
      ∙ over_to over more

pub over_at : (s : Setup) (made cycles : ℕ) → IsReached s made → IsToldOver s made → made ≤ cycles → executed_to s made ≡ executed_to s cycles
over_at s made cycles reached over within =
    let all : made + (cycles - made) ≡ cycles = omega arith in
    sym (over_to s made reached over (cycles - made)) ∙ ap (executed_to s) all

-- no more instructions than steps
one_at_most : (s : Setup) (m : Alone) → length (last_of s m) ≤ 1
one_at_most s m = by (has_ended m.end) refl
  where
    if_most : (b : Bool) (x : Executed) → length {A = Executed} (if b then [] else x ∷ []) ≤ 1
    if_most true x = omega arith
    if_most false x = omega arith

    by : (b : Bool) → has_ended m.end ≡ b → length (last_of s m) ≤ 1
    by true ended = let none : length (last_of s m) ≡ 0 = ap (length {A = Executed}) (last_ended s m ended) in omega (arith, none)
    by false going =
        let a = (after_interrupt m).arch in
        let same : length (last_of s m) ≡ length (executed_in s m) = ap (length {A = Executed}) (last_going s m going) in
        let most : length (executed_in s m) ≤ 1 = if_most (has_no_room s (note_of (result_at s (Some m.steps) a) a) a) (executed_by s a (result_at s (Some m.steps) a)) in
        omega (arith, same, most)

pub few_to : (s : Setup) (made : ℕ) → length (executed_to s made) ≤ made
few_to s zero = let none : length (executed_to s 0) ≡ 0 = ap (length {A = Executed}) (none_to s) in omega (arith, none)
few_to s (suc made) =
    let next : length (executed_to s (suc made)) ≡ length (executed_to s made ++ last_of s (alone s made)) = ap (length {A = Executed}) (next_to s made) in
    omega (arith, next, length-append (executed_to s made) (last_of s (alone s made)), one_at_most s (alone s made), few_to s made)
