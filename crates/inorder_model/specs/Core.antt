-- What both sides with what is under way between them stand for: a state of the in-order machine's split run.
use Rattle.std.specs.Prelude.{◌≡◌, ℕ, ◌+◌, Bool, true, false, List}
use Rattle.mono_model.specs.declared.setup.Setup.{Setup}
use Rattle.mono_model.specs.declared.final_state.Final.{Final}
use Rattle.mono_model.specs.Final.{has_ended}
use Rattle.mono_model.specs.Path.{path}
use Rattle.mono_model.specs.Split.{Event, is_boundary, is_halted}
use Rattle.machine_laws.specs.Output.{GrowsTo}
use Rattle.func_model.specs.Contents.{ContentsStandFor}
use Rattle.inorder_machine.specs.Cycle.{inorder, inorder_final}
use Rattle.inorder_machine.specs.Demand.{inorder_in, inorder_place, inorder_step_bound}
use Rattle.inorder_machine.specs.Split.{InorderSplit, inorder_played}
use Rattle.inorder_laws.specs.SplitLaw.{inorder_demand_run, IsInorderReached}
use Rattle.split_core.specs.Along.{At, IsReachedOn}
use Rattle.split_core.specs.Standing.{StandsOn, HoldsCommitted}
use Rattle.split_core.specs.declared.state.SplitState.{SplitState}
use Rattle.inorder_model.specs.Standing.{InorderState}
use Rattle.inorder_machine.specs.Setup.{IsInorder}
use Rattle.inorder_model.specs.InorderTimed.{inorder_timed, inorder_at}

pub record InorderSplitStandsFor {D : Type 0} (s : Setup) (x : InorderSplit) (state : SplitState D InorderState) : Type 0 where
  pub at : At
  pub is : inorder_at s at ≡ x
  pub reached : IsReachedOn s (inorder_demand_run s) at
  pub stands : StandsOn inorder_timed s at state

-- Whatever state of its run it stood for, it stands for the one that follows from it in this way.
abbrev pub InorderLeads : {D : Type 0} → (Setup → InorderSplit → InorderSplit) → SplitState D InorderState → SplitState D InorderState → Type 0
InorderLeads follow old new =
    (s : Setup) (x : InorderSplit) → IsInorder s → IsInorderReached s x → InorderSplitStandsFor s x old
    → InorderSplitStandsFor s (follow s x) new

-- a state that some events lead to, in a run of some setup
pub record IsInorderStanding {D : Type 0} (state : SplitState D InorderState) : Type 0 where
  pub setup : Setup
  pub sound : IsInorder setup
  pub split : InorderSplit
  pub reached : IsInorderReached setup split
  pub stands : InorderSplitStandsFor setup split state

-- and one at a boundary
pub record IsAtInorderBoundary {D : Type 0} (state : SplitState D InorderState) : Type 0 where
  pub standing : IsInorderStanding state
  pub boundary : is_boundary standing.split.split ≡ true

-- The run has ended: the timing side has told its last order, and the functional side has obeyed
-- it.
pub record IsInorderEnded {D : Type 0} (s : Setup) (state : SplitState D InorderState) : Type 0 where
  pub split : InorderSplit
  pub reached : IsInorderReached s split
  pub stands : InorderSplitStandsFor s split state
  pub place : split.place ≡ inorder_place s (inorder_step_bound s)
  pub inorder : inorder_in split.place.run.demand split.place.run.memory ≡ inorder s s.cycles
  pub boundary : is_boundary split.split ≡ true
  pub stopped : split.split.is_stopped ≡ true

-- Whatever state of its run it stood for, the run has ended.
abbrev pub InorderLeadsToEnd : {D : Type 0} → SplitState D InorderState → SplitState D InorderState → Type 0
InorderLeadsToEnd old new =
    (s : Setup) (x : InorderSplit) → IsInorder s → IsInorderReached s x → InorderSplitStandsFor s x old → IsInorderEnded s new

-- whether the state that it stands for is a boundary
abbrev pub TellsInorderBoundary : {D : Type 0} → SplitState D InorderState → Bool → Type 0
TellsInorderBoundary state answer = (s : Setup) (x : InorderSplit) → InorderSplitStandsFor s x state → answer ≡ is_boundary x.split

-- The report at the boundary that it stands for is that of the in-order machine at its cycle.
abbrev pub InorderReports : {D : Type 0} → SplitState D InorderState → Final → Type 0
InorderReports state last =
    (s : Setup) (x : InorderSplit) → IsInorder s → IsInorderReached s x → InorderSplitStandsFor s x state
    → is_boundary x.split ≡ true → last ≡ inorder_final s x.place.run.demand.machine.cycle

-- From the boundary that it stood for, the functional side has gone back to what is committed there.
abbrev pub InorderGoesBack : {D : Type 0} → SplitState D InorderState → SplitState D InorderState → Type 0
InorderGoesBack old new =
    (s : Setup) (x : InorderSplit) → IsInorder s → IsInorderReached s x → InorderSplitStandsFor s x old
    → is_boundary x.split ≡ true
    → ContentsStandFor s (inorder s x.place.run.demand.machine.cycle).machine.arch new.func.contents

-- Whatever state of its run it stood for, what it had committed stays in the one that follows from it in this way.
abbrev pub InorderKeeps : {D : Type 0} → (Setup → InorderSplit → InorderSplit) → SplitState D InorderState → SplitState D InorderState → Type 0
InorderKeeps follow old new =
    (s : Setup) (x : InorderSplit) → IsInorder s → IsInorderReached s x → InorderSplitStandsFor s x old
    → HoldsCommitted s x.split (follow s x).split old new

-- Some events lead from a state to the one that it stands for, and what was committed there stays.
pub record IsInorderPlayedFrom {D : Type 0} (s : Setup) (x : InorderSplit) (old new : SplitState D InorderState) : Type 0 where
  pub events : List Event
  pub stands : InorderSplitStandsFor s (inorder_played s events x) new
  pub kept : HoldsCommitted s x.split (inorder_played s events x).split old new

-- Whatever state of its run it stood for, some events were played from there.
abbrev pub InorderPlaysOn : {D : Type 0} → SplitState D InorderState → SplitState D InorderState → Type 0
InorderPlaysOn old new =
    (s : Setup) (x : InorderSplit) → IsInorder s → IsInorderReached s x → InorderSplitStandsFor s x old
    → IsInorderPlayedFrom s x old new

-- It stands where the cycle after that of a state starts; where the run has ended, its last order is not told yet.
pub record IsAtNextInorderCycle {D : Type 0} (s : Setup) (x : InorderSplit) (state : SplitState D InorderState) : Type 0 where
  pub split : InorderSplit
  pub reached : IsInorderReached s split
  pub stands : InorderSplitStandsFor s split state
  pub boundary : is_boundary split.split ≡ true
  pub cycle : split.place.run.demand.machine.cycle ≡ x.place.run.demand.machine.cycle + 1
  pub unstopped : is_halted split.split.place.run.at ≡ false

-- From the start of a cycle of a run that goes on, it came to the start of the next.
abbrev pub GoesToNextInorderCycle : {D : Type 0} → SplitState D InorderState → SplitState D InorderState → Type 0
GoesToNextInorderCycle old new =
    (s : Setup) (x : InorderSplit) → IsInorder s → IsInorderReached s x → InorderSplitStandsFor s x old
    → is_boundary x.split ≡ true → has_ended x.place.run.demand.machine.end ≡ false
    → IsAtNextInorderCycle s x new

-- and at the end of the run
abbrev pub InorderKeepsToEnd : {D : Type 0} → SplitState D InorderState → SplitState D InorderState → Type 0
InorderKeepsToEnd old new =
    (s : Setup) (x : InorderSplit) → IsInorder s → IsInorderReached s x → InorderSplitStandsFor s x old
    → (end : IsInorderEnded s new) → HoldsCommitted s x.split end.split.split old new

-- it stands for a state that events lead to
pub record IsInorderUnderWay {D : Type 0} (s : Setup) (state : SplitState D InorderState) : Type 0 where
  pub split : InorderSplit
  pub reached : IsInorderReached s split
  pub stands : InorderSplitStandsFor s split state

-- these bytes are what the functional side has committed of the output, and so the beginning of the run's
pub record IsInorderCommitted (s : Setup) (x : InorderSplit) (bytes : List ℕ) : Type 0 where
  pub output : bytes ≡ (path s x.split.obeyed x.split.committed_number).output
  pub begins : GrowsTo bytes (inorder s s.cycles).machine.arch.output

abbrev pub TellsInorderCommitted : {D : Type 0} → SplitState D InorderState → List ℕ → Type 0
TellsInorderCommitted state bytes =
    (s : Setup) (x : InorderSplit) → IsInorder s → IsInorderReached s x → InorderSplitStandsFor s x state → IsInorderCommitted s x bytes
