-- Turns that a pipeline makes one after the other, as steps of the side.
use Rattle.std.proofs.Common.{◌≡◌, ◌&&◌, Bool, true, false, is_none, Option, Some, None, IfSome, IfNone, refl, ap, sym, ◌∙◌, subst}
use Rattle.rollback_cmds.specs.declared.order.Order.{Order}
use Rattle.mono_model.specs.Demand.{is_try}
use Rattle.mono_model.specs.Split.{is_halted}
use Rattle.timing_core.specs.declared.orders.Orders.{Orders}
use Rattle.time_model.specs.declared.state.TimingState.{TimingState}
use Rattle.time_model.specs.declared.telling.Telling.{Telling}
use Rattle.time_model.specs.declared.turn.Turn.TheVariants.{Ordered}
use Rattle.time_model.specs.Piped.{Piped, IsPiped, IsPhase, IsInnerPhase, IsQuietBy, IsMadeOnce, nothing, once, IsStriddenBy}
use Rattle.time_model.specs.Piped as turns
use Rattle.time_model.specs.Running.{IsSilent, start, more, IsRun, Steps, IsInner}
use Rattle.time_model.specs.Standing.{IsStanding, wants_in, over_in, ends_in}
use Rattle.time_model.specs.Telling.{behind_first, epoch_by, kept_by, told_behind}
use Rattle.time_model.specs.declared.turn.Turn.{Turn}
use Rattle.time_model.specs.Turns.{is_ending, turn_told}
use Rattle.time_model.proofs.Running.{untold_silent, step_told, step_untold, silent_on, run_on}
use Rattle.time_model.proofs.Sides.{turned_due, due_told, stands_after}

-- a side of these parts
abbrev side_of : {P A : Type 0} → P → A → Telling → TimingState P A
side_of pipeline at telling = record { pipeline = pipeline; at = at; telling = telling }

-- telling no order changes nothing
pub nothing_told : (telling : Telling) (made : Orders) → telling.owed ≡ None → made.first ≡ None → telling ≡ told_behind made telling
nothing_told telling made free none =
    (λ i. record telling { owed = free i })
    ∙ ap (λ (o : Option Order). record { owed = behind_first o made.second; epoch = epoch_by o telling.epoch; held = kept_by o telling.held }) (sym none)

and_false : (a b : Bool) → b ≡ false → (a && b) ≡ false
and_false true b is = is
and_false false b is = refl

-- what a stride made, by the order that it told
pub record HasStrode {T : Type 0} (step : T → T → Turn → Type 0) (old new : T) (told : Option Order) : Type 0 where
  pub ordered : IfSome told (λ order. IsRun step old new (Ordered order))
  pub silent : IfNone told (IsSilent step old new)

module _ {P A : Type 0} (piped : Piped P A) (laws : IsPiped piped) where
  -- a turn that is no try, with the first of its orders told
  pub turn_step : (side : TimingState P A) (new : P) (next : A) (due : Orders) (told : Option Order) (behind : Telling) → side.telling.owed ≡ None → IsPhase piped side.pipeline side.at new next due →
      told ≡ due.first → behind ≡ told_behind due side.telling → Steps piped side (side_of new next behind) (turn_told told (piped.seen side.at))
  unfolding wants_in
  turn_step side new next due told behind none phase first is =
      due_told piped laws side mid due told behind free goes (λ s k allowed h. turned_due piped laws s k side h mid due allowed goes none plain phase.made refl) refl first is
    where
      mid : TimingState P A
      mid = record side { pipeline = new; at = next }

      plain : is_try (piped.seen side.at) ≡ false
      plain = phase.plain

      on : is_halted (piped.seen side.at) ≡ false
      on = phase.goes

      free : wants_in piped side ≡ false
      free = let off = plain in cc

      goes : over_in piped side ≡ false
      goes = let off = on in cc

  -- the same, where it ends no cycle
  pub inner_step : (side : TimingState P A) (new : P) (next : A) (due : Orders) (told : Option Order) (behind : Telling) → side.telling.owed ≡ None → IsInnerPhase piped side.pipeline side.at new next due →
      told ≡ due.first → behind ≡ told_behind due side.telling → IsInner piped side (side_of new next behind) (turn_told told (piped.seen side.at))
  inner_step side new next due told behind none inner first is = record {
    made = turn_step side new next due told behind none inner.phase first is;
    inner = and_false (is_none side.telling.owed) (is_ending (piped.seen side.at)) inner.inner;
  }

  -- a side stands after silent steps, and after a stride
  pub silent_standing : (old new : TimingState P A) → IsStanding piped old → IsSilent (Steps piped) old new → IsStanding piped new
  silent_standing old _ standing start = standing
  silent_standing old _ standing (more mid new turn rest step silent) = stands_after piped laws mid new turn (silent_standing old mid standing rest) step

  pub strode_standing : (old new : TimingState P A) (told : Option Order) → IsStanding piped old → HasStrode (Steps piped) old new told → IsStanding piped new
  strode_standing old new None standing is = silent_standing old new standing is.silent
  strode_standing old new (Some o) standing is =
      let run : IsRun (Steps piped) old new (Ordered o) = is.ordered in
      stands_after piped laws run.behind new (Ordered o) (silent_standing old run.behind standing run.silent) run.last

  -- the same, where each step ended no cycle
  pub inner_silent : (old new : TimingState P A) → IsSilent (IsInner piped) old new → IsSilent (Steps piped) old new
  inner_silent old _ start = start
  inner_silent old _ (more mid new turn rest step silent) = more mid new turn (inner_silent old mid rest) step.made silent

  pub inner_standing : (old new : TimingState P A) (told : Option Order) → IsStanding piped old → HasStrode (IsInner piped) old new told → IsStanding piped new
  inner_standing old new None standing is = silent_standing old new standing (inner_silent old new is.silent)
  inner_standing old new (Some o) standing is =
      let run : IsRun (IsInner piped) old new (Ordered o) = is.ordered in
      let step : IsInner piped run.behind new (Ordered o) = run.last in
      stands_after piped laws run.behind new (Ordered o) (silent_standing old run.behind standing (inner_silent old run.behind run.silent)) step.made

-- Phases of a kind, each of which is a step of a kind.
module _ {P A : Type 0} (piped : Piped P A) (phase : P → A → P → A → Orders → Type 0) (step : TimingState P A → TimingState P A → Turn → Type 0)
    (each : (side : TimingState P A) (new : P) (next : A) (due : Orders) (told : Option Order) (behind : Telling) → side.telling.owed ≡ None → phase side.pipeline side.at new next due →
    told ≡ due.first → behind ≡ told_behind due side.telling → step side (side_of new next behind) (turn_told told (piped.seen side.at))) where
  -- those that made no order are silent steps
  quiet_by : (telling : Telling) (p : P) (a : A) (q : P) (b : A) → telling.owed ≡ None → IsQuietBy phase p a q b → IsSilent step (side_of p a telling) (side_of q b telling)
  quiet_by telling p a _ _ free turns.start = start
  quiet_by telling p a _ _ free (turns.more mid new between next made rest kind none) =
      more (side_of mid between telling) (side_of new next telling) (turn_told None (piped.seen between)) (quiet_by telling p a mid between free rest)
      (each (side_of mid between telling) new next made None telling free kind (sym none) (nothing_told telling made free none)) (untold_silent (is_ending (piped.seen between)))

  strode_by : (old mid new : TimingState P A) (told : Option Order) → IsSilent step old mid → step mid new (turn_told told (piped.seen mid.at)) → HasStrode step old new told
  strode_by old mid new None before made =
      record { ordered = tt; silent = silent_on step before (step_untold step mid new None (is_ending (piped.seen mid.at)) made) }
  strode_by old mid new (Some o) before made =
      record { ordered = run_on step before (step_told step mid new (Some o) (is_ending (piped.seen mid.at)) made); silent = tt }

  strode_none : (old new : TimingState P A) (told : Option Order) → told ≡ None → IsSilent step old new → HasStrode step old new told
  strode_none old new None is silent = record { ordered = tt; silent = silent }
  strode_none old new (Some o) is silent = cc

  last_strode : (telling behind : Telling) (told : Option Order) (old : TimingState P A) (mid : P) (between : A) (q : P) (b : A) (made : Orders) → telling.owed ≡ None →
      IsSilent step old (side_of mid between telling) → IsMadeOnce phase mid between made q b → told ≡ made.first → behind ≡ told_behind made telling → HasStrode step old (side_of q b behind) told
  last_strode telling behind told old mid between _ _ made free before (nothing none) first is =
      subst (λ (t : Telling). HasStrode step old (side_of mid between t) told) (nothing_told telling made free none ∙ sym is) (strode_none old (side_of mid between telling) told (first ∙ none) before)
  last_strode telling behind told old mid between _ _ made free before (once new next kind) first is =
      strode_by old (side_of mid between telling) (side_of new next behind) told before (each (side_of mid between telling) new next made told behind free kind first is)

  strode_of : (telling behind : Telling) (told : Option Order) (p : P) (a : A) (q : P) (b : A) (made : Orders) → telling.owed ≡ None → IsStriddenBy phase p a q b made → told ≡ made.first →
      behind ≡ told_behind made telling → HasStrode step (side_of p a telling) (side_of q b behind) told
  strode_of telling behind told p a q b made free is first told_is =
      last_strode telling behind told (side_of p a telling) is.mid is.between q b made free (quiet_by telling p a is.mid is.between free is.quiet) is.last first told_is

module _ {P A : Type 0} (piped : Piped P A) (laws : IsPiped piped) where
  -- turns that made no order are silent steps
  pub quiet_silent : (telling : Telling) (p : P) (a : A) (q : P) (b : A) → telling.owed ≡ None → IsQuietBy (IsPhase piped) p a q b → IsSilent (Steps piped) (side_of p a telling) (side_of q b telling)
  quiet_silent = quiet_by piped (IsPhase piped) (Steps piped) (turn_step piped laws)

  -- a stride
  pub strode : (telling behind : Telling) (told : Option Order) (p : P) (a : A) (q : P) (b : A) (made : Orders) → telling.owed ≡ None → IsStriddenBy (IsPhase piped) p a q b made → told ≡ made.first →
      behind ≡ told_behind made telling → HasStrode (Steps piped) (side_of p a telling) (side_of q b behind) told
  strode = strode_of piped (IsPhase piped) (Steps piped) (turn_step piped laws)

  -- one that stays within a cycle
  pub inner_strode : (telling behind : Telling) (told : Option Order) (p : P) (a : A) (q : P) (b : A) (made : Orders) → telling.owed ≡ None → IsStriddenBy (IsInnerPhase piped) p a q b made → told ≡ made.first →
      behind ≡ told_behind made telling → HasStrode (IsInner piped) (side_of p a telling) (side_of q b behind) told
  inner_strode = strode_of piped (IsInnerPhase piped) (IsInner piped) (inner_step piped laws)

-- one stride of turns after another
module _ {P A : Type 0} (phase : P → A → P → A → Orders → Type 0) where
  pub quiet_on : {p mid : P} {a between : A} {q : P} {b : A} → IsQuietBy phase p a mid between → IsQuietBy phase mid between q b → IsQuietBy phase p a q b
  quiet_on before turns.start = before
  quiet_on before (turns.more mid new between next made rest kind none) = turns.more mid new between next made (quiet_on before rest) kind none

  pub stride_on : {p mid q : P} {a between b : A} {made : Orders} → IsQuietBy phase p a mid between → IsStriddenBy phase mid between q b made → IsStriddenBy phase p a q b made
  stride_on before is = record { mid = is.mid; between = is.between; quiet = quiet_on before is.quiet; last = is.last }

  -- one that made no order
  pub stride_quiet : {p q : P} {a b : A} {made : Orders} → IsStriddenBy phase p a q b made → made.first ≡ None → IsQuietBy phase p a q b
  stride_quiet is none = by_last is.quiet is.last none
    where
      by_last : {p mid : P} {a between : A} {q : P} {b : A} {made : Orders} → IsQuietBy phase p a mid between → IsMadeOnce phase mid between made q b → made.first ≡ None → IsQuietBy phase p a q b
      by_last quiet (nothing still) none = quiet
      by_last quiet (once new next kind) none = turns.more _ new _ next _ quiet kind none

  -- one phase, or none
  pub stride_once : {p q : P} {a b : A} {made : Orders} → phase p a q b made → IsStriddenBy phase p a q b made
  stride_once {p} {q} {a} {b} kind = record { mid = p; between = a; quiet = turns.start; last = once q b kind }

  pub stride_none : {p : P} {a : A} {made : Orders} → made.first ≡ None → IsStriddenBy phase p a p a made
  stride_none {p} {a} none = record { mid = p; between = a; quiet = turns.start; last = nothing none }

-- phases that end no cycle are phases
module _ {P A : Type 0} (piped : Piped P A) where
  outer_quiet : {p : P} {a : A} {q : P} {b : A} → IsQuietBy (IsInnerPhase piped) p a q b → IsQuietBy (IsPhase piped) p a q b
  outer_quiet turns.start = turns.start
  outer_quiet (turns.more mid new between next made rest kind none) = turns.more mid new between next made (outer_quiet rest) kind.phase none

  outer_once : {p q : P} {a b : A} {made : Orders} → IsMadeOnce (IsInnerPhase piped) p a made q b → IsMadeOnce (IsPhase piped) p a made q b
  outer_once (nothing none) = nothing none
  outer_once (once new next kind) = once new next kind.phase

  pub outer_stride : {p q : P} {a b : A} {made : Orders} → IsStriddenBy (IsInnerPhase piped) p a q b made → IsStriddenBy (IsPhase piped) p a q b made
  outer_stride is = record { mid = is.mid; between = is.between; quiet = outer_quiet is.quiet; last = outer_once is.last }
