-- What a debugger's calls make of its position. Its state is the run's there (`TrailStandsFor`).
use Rattle.std.specs.Prelude.{◌≡◌, ◌≢◌, ℕ, zero, suc, ◌+◌, ◌-◌, ◌<◌, ◌≤◌, Bool, true, false, Option, Some, None}
use Rattle.mono_model.specs.declared.final_state.End.{End}
use Rattle.mono_model.specs.declared.setup.Setup.{Setup}
use Rattle.func_model.specs.declared.trail.Trail.{Trail}
use Rattle.func_model.specs.History.{walk, end_at, floor}
use Rattle.func_model.specs.Trail.{TrailStandsFor}
use Rattle.back_debug.specs.declared.debugger.Stepped.{Stepped}
use Rattle.back_debug.specs.declared.debugger.Stepped.TheVariants as stepped
use Rattle.back_debug.specs.declared.debugger.Backed.{Backed}
use Rattle.back_debug.specs.declared.debugger.Backed.TheVariants as backed
use Rattle.back_debug.specs.declared.debugger.RunTo.{RunTo}
use Rattle.back_debug.specs.declared.debugger.RunTo.TheVariants as run_to

-- the end that a step told, if it made none
abbrev pub ended_in : Stepped → Option End
ended_in stepped.Moved = None
ended_in (stepped.Ended end) = Some end

abbrev pub has_moved : Backed → Bool
has_moved backed.Moved = true
has_moved backed.Oldest = false

-- no step behind `from`, up to `to`, leaves the next address at `addr`
abbrev pub Misses : Setup → ℕ → ℕ → ℕ → Type 0
Misses s addr from to = (made : ℕ) → from < made → made ≤ to → (walk s made).pc ≢ addr

-- the oldest position behind so many further steps
unfoldable pub floors : ℕ → Setup → ℕ → ℕ → ℕ → ℕ
floors history s from old zero = old
floors history s from old (suc count) = floor history s (from + count) (floors history s from old count)

-- further steps, none or some, are made
pub record IsAhead {D : Type 0} (s : Setup) (old new : Trail D) : Type 0 where
  pub stands : TrailStandsFor s new
  pub from : old.at ≤ new.at
  pub goes_on : (made : ℕ) → old.at ≤ made → made < new.at → end_at s made ≡ None
  pub floor_is : new.floor ≡ floors old.steps.capacity s old.at old.floor (new.at - old.at)
  pub history_is : new.steps.capacity ≡ old.steps.capacity

-- the first further position whose next address is this one
pub record IsFirst {D : Type 0} (s : Setup) (addr : ℕ) (old new : Trail D) : Type 0 where
  pub ahead : IsAhead s old new
  pub further : old.at < new.at
  pub there : (walk s new.at).pc ≡ addr
  pub missed : Misses s addr old.at (new.at - 1)

-- the run ends, and no further position has it
pub record IsLast {D : Type 0} (s : Setup) (addr : ℕ) (old new : Trail D) (end : End) : Type 0 where
  pub ahead : IsAhead s old new
  pub answer : end_at s new.at ≡ Some end
  pub missed : Misses s addr old.at new.at

abbrev pub IsRunTo : {D : Type 0} → Setup → ℕ → Trail D → Trail D → RunTo → Type 0
IsRunTo s addr old new run_to.Reached = IsFirst s addr old new
IsRunTo s addr old new (run_to.Ended end) = IsLast s addr old new end
