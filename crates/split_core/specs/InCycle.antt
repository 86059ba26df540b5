-- The core within a cycle, and where it comes out of it.
use Rattle.std.specs.Prelude.{◌≡◌, ℕ, ◌+◌, ◌<◌, ◌≤◌, true, false}
use Rattle.mono_model.specs.declared.setup.Setup.{Setup}
use Rattle.mono_model.specs.Final.{has_ended}
use Rattle.mono_model.specs.Split.{is_boundary, is_halted}
use Rattle.machine_laws.specs.DemandRun.{DemandRun}
use Rattle.split_core.specs.Along.{At, IsReachedOn}
use Rattle.split_core.specs.Cycles.{StartsCycle, is_inside}
use Rattle.split_core.specs.Timed.{Timed}
use Rattle.split_core.specs.declared.state.SplitState.{SplitState}
use Rattle.split_core.specs.Standing.{StandsOn}

-- all places after one and up to another are within a cycle; all between the two
abbrev pub Closed : DemandRun → ℕ → ℕ → Type 0
Closed r from to = (j : ℕ) → from < j → j ≤ to → is_inside (r.places j) ≡ true

abbrev pub Open : DemandRun → ℕ → ℕ → Type 0
Open r from to = (j : ℕ) → from < j → j < to → is_inside (r.places j) ≡ true

-- It stands within the cycle that began after so many steps, or at its start.
pub record IsIn {D T : Type 0} (timed : Timed T) (s : Setup) (from : ℕ) (state : SplitState D T) : Type 0 where
  pub split : At
  pub reached : IsReachedOn s (timed.run s) split
  pub stands : StandsOn timed s split state
  pub later : from ≤ split.steps
  pub closed : Closed (timed.run s) from split.steps

-- It has made steps since, the last of which may have ended the cycle.
pub record IsOut {D T : Type 0} (timed : Timed T) (s : Setup) (from : ℕ) (state : SplitState D T) : Type 0 where
  pub split : At
  pub reached : IsReachedOn s (timed.run s) split
  pub stands : StandsOn timed s split state
  pub moved : from < split.steps
  pub between : Open (timed.run s) from split.steps

-- whatever cycle it stood in, it still does
abbrev pub StaysIn : {D T : Type 0} → Timed T → SplitState D T → SplitState D T → Type 0
StaysIn timed old new =
    (s : Setup) (from : ℕ) → timed.allows s → StartsCycle ((timed.run s).places from)
    → IsIn timed s from old → IsIn timed s from new

-- or it may have come to its end
abbrev pub ComesOut : {D T : Type 0} → Timed T → SplitState D T → SplitState D T → Type 0
ComesOut timed old new =
    (s : Setup) (from : ℕ) → timed.allows s → StartsCycle ((timed.run s).places from)
    → IsIn timed s from old → IsOut timed s from new

-- it stands where the cycle after that of a state starts
pub record IsNextCycle {D T : Type 0} (timed : Timed T) (s : Setup) (x : At) (state : SplitState D T) : Type 0 where
  pub split : At
  pub reached : IsReachedOn s (timed.run s) split
  pub stands : StandsOn timed s split state
  pub boundary : is_boundary split.split ≡ true
  pub cycle : split.split.place.run.demand.machine.cycle
      ≡ x.split.place.run.demand.machine.cycle + 1
  pub unstopped : is_halted split.split.place.run.at ≡ false

-- From the start of a cycle of a run that goes on, it came to the start of the next.
abbrev pub CyclesOn : {D T : Type 0} → Timed T → SplitState D T → SplitState D T → Type 0
CyclesOn timed old new =
    (s : Setup) (x : At) → timed.allows s → IsReachedOn s (timed.run s) x → StandsOn timed s x old
    → is_boundary x.split ≡ true → has_ended x.split.place.run.demand.machine.end ≡ false
    → IsNextCycle timed s x new
