-- Steps that tell no order, one after the other, whatever a step is and where a side stands.
use Rattle.std.proofs.Common.{◌≡◌, ◌<◌, ◌≤◌, ℕ, ◌-◌, Bool, true, false, Option, Some, None, IfSome, IfNone, refl, sym, subst, arith}
use Rattle.rollback_cmds.specs.declared.order.Order.{Order}
use Rattle.time_model.specs.declared.turn.Turn.{Turn}
use Rattle.time_model.specs.declared.turn.Turn.TheVariants.{Ordered}
use Rattle.time_model.specs.Turns.{told_or, untold_by}
use Rattle.time_model.specs.declared.state.TimingState.{TimingState}
use Rattle.time_model.specs.Piped.{Piped}
use Rattle.time_model.specs.Running.{is_silent, IsSilent, start, more, IsRun, Steps, IsInner, IsRunInCycle}

-- a turn that tells no order is silent
pub untold_silent : (ends : Bool) → is_silent (untold_by ends) ≡ true
untold_silent true = refl
untold_silent false = refl

module _ {T : Type 0} (step : T → T → Turn → Type 0) where
  -- a step, by the order that it told
  pub step_told : (old new : T) (order : Option Order) (ends : Bool) → step old new (told_or order (untold_by ends)) → IfSome order (λ o. IsRun step old new (Ordered o))
  step_told old new None ends made = tt
  step_told old new (Some o) ends made = record { behind = old; silent = start; last = made }

  pub step_untold : (old new : T) (order : Option Order) (ends : Bool) → step old new (told_or order (untold_by ends)) → IfNone order (IsSilent step old new)
  step_untold old new None ends made = more old new (untold_by ends) start made (untold_silent ends)
  step_untold old new (Some o) ends made = tt

  -- behind silent steps
  pub silent_on : {old mid new : T} → IsSilent step old mid → IsSilent step mid new → IsSilent step old new
  silent_on before start = before
  silent_on before (more last new turn rest made silent) = more last new turn (silent_on before rest) made silent

  pub run_on : {old mid new : T} {what : Turn} → IsSilent step old mid → IsRun step mid new what → IsRun step old new what
  run_on before run = record { behind = run.behind; silent = silent_on before run.silent; last = run.last }

-- A run that was given so many strides and has so many left: its steps told no order, and where it was given none it made
-- none.
pub record HasRun {T : Type 0} (step : T → T → Turn → Type 0) (stands : T → Type 0) (given left : ℕ) (old now : T) : Type 0 where
  pub standing : stands now
  pub silent : IsSilent step old now
  pub fewer : left ≤ given
  pub unmoved : given ≡ 0 → now ≡ old

module _ {T : Type 0} (step : T → T → Turn → Type 0) (stands : T → Type 0) where
  pub run_start : (given : ℕ) (old : T) → stands old → HasRun step stands given given old old
  run_start given old standing = record { standing = standing; silent = start; fewer = omega arith; unmoved = λ none. refl }

  -- where strides are left some were given
  given_some : (given left : ℕ) → 0 < left → left ≤ given → given ≡ 0 → ⊥
  given_some given left some fewer none = omega (none, some, fewer, arith)

  -- a stride more, of those that are left
  pub run_strides : (given left : ℕ) (old mid new : T) → 0 < left → HasRun step stands given left old mid → IsSilent step mid new → stands new → HasRun step stands given (left - 1) old new
  run_strides given left old mid new some is silent standing = record {
    standing = standing;
    silent = silent_on step is.silent silent;
    fewer = omega (arith, is.fewer);
    unmoved = λ none. absurd (given_some given left some is.fewer none);
  }

  -- a step more, behind which strides are left
  pub run_steps : (given left : ℕ) (old mid new : T) (ends : Bool) → 0 < left → HasRun step stands given left old mid → step mid new (untold_by ends) → stands new → HasRun step stands given left old new
  run_steps given left old mid new ends some is made standing = record {
    standing = standing;
    silent = more mid new (untold_by ends) is.silent made (untold_silent ends);
    fewer = is.fewer;
    unmoved = λ none. absurd (given_some given left some is.fewer none);
  }

  -- the last step
  pub run_ends : (given left : ℕ) (old mid new : T) (what : Turn) → HasRun step stands given left old mid → step mid new what → IsRun step old new what
  run_ends given left old mid new what is made = record { behind = mid; silent = is.silent; last = made }

  pub run_untold : (given left : ℕ) (old mid new : T) (b ends : Bool) → b ≡ ends → HasRun step stands given left old mid → step mid new (untold_by ends) → IsRun step old new (untold_by b)
  run_untold given left old mid new b ends same is made = run_ends given left old mid new (untold_by b) is (subst (λ e. step mid new (untold_by e)) (sym same) made)

-- what holds of each step by itself holds of a run
module _ {T : Type 0} (from to : T → T → Turn → Type 0) (each : (old new : T) (turn : Turn) → from old new turn → to old new turn) where
  pub silent_by : (old new : T) → IsSilent from old new → IsSilent to old new
  silent_by old _ start = start
  silent_by old _ (more mid new turn rest made silent) = more mid new turn (silent_by old mid rest) (each mid new turn made) silent

  pub run_by : (old new : T) (turn : Turn) → IsRun from old new turn → IsRun to old new turn
  run_by old new turn is = record { behind = is.behind; silent = silent_by old is.behind is.silent; last = each is.behind new turn is.last }

-- steps that end no cycle, as a run that may end one
pub inner_run : {P A : Type 0} (piped : Piped P A) {old new : TimingState P A} {turn : Turn} → IsRun (IsInner piped) old new turn → IsRunInCycle piped old new turn
inner_run piped run = let last : IsInner piped run.behind _ _ = run.last in record { behind = run.behind; silent = run.silent; last = last.made }

-- and that as a run
pub run_of_cycle : {P A : Type 0} (piped : Piped P A) (old new : TimingState P A) (turn : Turn) → IsRunInCycle piped old new turn → IsRun (Steps piped) old new turn
run_of_cycle piped old new turn run = record {
  behind = run.behind;
  silent = silent_by (IsInner piped) (Steps piped) (λ a b t step. step.made) old run.behind run.silent;
  last = run.last;
}
