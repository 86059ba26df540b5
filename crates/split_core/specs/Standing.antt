-- What the two sides with what is under way between them stand for: a state of the split machine.
use Rattle.std.specs.Prelude.{◌≡◌, ℕ, ◌+◌, ◌≤◌, Bool, true, false, List}
use Rattle.circular_buffer.specs.Buffer.{buffer}
use Rattle.mono_model.specs.declared.setup.Setup.{Setup}
use Rattle.mono_model.specs.Setup.{is_setup}
use Rattle.mono_model.specs.declared.final_state.Final.{Final}
use Rattle.mono_model.specs.Final.{has_ended}
use Rattle.mono_model.specs.Machine.{machine_final}
use Rattle.mono_model.specs.Demand.{place, step_bound}
use Rattle.mono_model.specs.Cycle.{final, mono}
use Rattle.mono_model.specs.Path.{path}
use Rattle.mono_model.specs.Split.{Split, Event, played, is_boundary, is_halted}
use Rattle.machine_laws.specs.DemandRun.{mono_run}
use Rattle.machine_laws.specs.Output.{GrowsTo}
use Rattle.machine_laws.specs.Reached.{IsReached}
use Rattle.machine_laws.specs.Stays.{CommittedStays}
use Rattle.func_model.specs.Contents.{ContentsStandFor}
use Rattle.func_model.specs.Walk.{WalkStandsFor}
use Rattle.time_model.specs.OutOfOrder.{TimeState}
use Rattle.split_core.specs.Along.{At, IsReachedOn}
use Rattle.split_core.specs.Timed.{Timed}
use Rattle.split_core.specs.TimeSide.{mono_timed}
use Rattle.split_core.specs.declared.state.SplitState.{SplitState}

pub record StandsOn {D T : Type 0} (timed : Timed T) (s : Setup) (x : At) (state : SplitState D T) : Type 0 where
  -- the functional side, under the orders obeyed and at its position
  pub func : WalkStandsFor s x.split.obeyed state.func
  pub position : state.func.position ≡ x.split.position
  -- the timing side, at its place and with the entry that it holds
  pub time : timed.stands s x.steps state.time
  pub held : timed.held state.time ≡ x.split.held
  -- what is under way between them, in lists with room for as many entries as the ring has and
  -- for 64 orders
  pub computed : state.computed ≡ x.split.computed
  pub hand : state.hand ≡ x.split.hand
  pub entries : state.entries ≡ buffer x.split.entries s.ring
  pub listed_orders : state.listed_orders ≡ buffer x.split.listed_orders 64
  -- how far the next boundary and the end are at most
  pub rounds : state.rounds ≡ timed.rounds s
  pub steps : state.steps ≡ (timed.run s).bound
  -- the functional side was not stopped for the report
  pub going : state.is_reported ≡ false

-- Whatever state of its run it stood for, it stands for the one that follows from it in this way.
abbrev pub LeadsOn : {D T : Type 0} → Timed T → (Setup → At → At) → SplitState D T → SplitState D T → Type 0
LeadsOn timed follow old new =
    (s : Setup) (x : At) → timed.allows s → IsReachedOn s (timed.run s) x → StandsOn timed s x old
    → StandsOn timed s (follow s x) new

-- a state that some events lead to, in a run of some setup
pub record IsStandingOn {D T : Type 0} (timed : Timed T) (state : SplitState D T) : Type 0 where
  pub setup : Setup
  pub sound : timed.allows setup
  pub split : At
  pub reached : IsReachedOn setup (timed.run setup) split
  pub stands : StandsOn timed setup split state

-- and one at a boundary
pub record IsAtBoundaryOn {D T : Type 0} (timed : Timed T) (state : SplitState D T) : Type 0 where
  pub standing : IsStandingOn timed state
  pub boundary : is_boundary standing.split.split ≡ true

-- The run has ended: the timing side has told its last order, and the functional side has obeyed
-- it.
pub record IsEndedOn {D T : Type 0} (timed : Timed T) (s : Setup) (state : SplitState D T) : Type 0 where
  pub split : At
  pub reached : IsReachedOn s (timed.run s) split
  pub stands : StandsOn timed s split state
  pub halted : is_halted split.split.place.run.at ≡ true
  pub boundary : is_boundary split.split ≡ true
  pub stopped : split.split.is_stopped ≡ true

-- Whatever state of its run it stood for, the run has ended.
abbrev pub EndsOn : {D T : Type 0} → Timed T → SplitState D T → SplitState D T → Type 0
EndsOn timed old new =
    (s : Setup) (x : At) → timed.allows s → IsReachedOn s (timed.run s) x → StandsOn timed s x old → IsEndedOn timed s new

-- whether the state that it stands for is a boundary
abbrev pub TellsBoundaryOn : {D T : Type 0} → Timed T → SplitState D T → Bool → Type 0
TellsBoundaryOn timed state answer =
    (s : Setup) (x : At) → IsReachedOn s (timed.run s) x → StandsOn timed s x state → answer ≡ is_boundary x.split

-- The report at the boundary that it stands for is that of the machine at its cycle.
abbrev pub ReportsOn : {D T : Type 0} → Timed T → SplitState D T → Final → Type 0
ReportsOn timed state last =
    (s : Setup) (x : At) → timed.allows s → IsReachedOn s (timed.run s) x → StandsOn timed s x state
    → is_boundary x.split ≡ true → last ≡ machine_final s ((timed.run s).machines x.split.place.run.demand.machine.cycle)

-- From the boundary that it stood for, the functional side has gone back to what is committed there.
abbrev pub GoesBackOn : {D T : Type 0} → Timed T → SplitState D T → SplitState D T → Type 0
GoesBackOn timed old new =
    (s : Setup) (x : At) → timed.allows s → IsReachedOn s (timed.run s) x → StandsOn timed s x old
    → is_boundary x.split ≡ true
    → ContentsStandFor s ((timed.run s).machines x.split.place.run.demand.machine.cycle).arch new.func.contents

-- What the core has committed stays, from one state of its run to a later one.
pub record HoldsCommitted {D T : Type 0} (s : Setup) (x y : Split) (old new : SplitState D T) : Type 0 where
  -- its functional side takes back no number that it has committed
  pub number : old.func.committed ≤ new.func.committed
  -- nor anything of the path below it
  pub stays : CommittedStays s x y

-- The same of the monolithic machine's timing side, in its own split run.
pub record SplitStandsFor {D : Type 0} (s : Setup) (x : Split) (state : SplitState D TimeState) : Type 0 where
  pub at : At
  pub is : at.split ≡ x
  pub reached : IsReachedOn s (mono_run s) at
  pub stands : StandsOn mono_timed s at state

abbrev pub Leads : {D : Type 0} → (Setup → Split → Split) → SplitState D TimeState → SplitState D TimeState → Type 0
Leads follow old new =
    (s : Setup) (x : Split) → is_setup s ≡ true → IsReached s x → SplitStandsFor s x old
    → SplitStandsFor s (follow s x) new

-- a state that some events lead to, in a run of some setup
pub record IsStanding {D : Type 0} (state : SplitState D TimeState) : Type 0 where
  pub setup : Setup
  pub sound : is_setup setup ≡ true
  pub split : Split
  pub reached : IsReached setup split
  pub stands : SplitStandsFor setup split state

-- and one at a boundary
pub record IsAtBoundary {D : Type 0} (state : SplitState D TimeState) : Type 0 where
  pub standing : IsStanding state
  pub boundary : is_boundary standing.split ≡ true

pub record IsEnded {D : Type 0} (s : Setup) (state : SplitState D TimeState) : Type 0 where
  pub split : Split
  pub reached : IsReached s split
  pub stands : SplitStandsFor s split state
  pub place : split.place ≡ place s (step_bound s)
  pub machine : split.place.run.demand.machine ≡ mono s s.cycles
  pub boundary : is_boundary split ≡ true
  pub stopped : split.is_stopped ≡ true

abbrev pub LeadsToEnd : {D : Type 0} → SplitState D TimeState → SplitState D TimeState → Type 0
LeadsToEnd old new =
    (s : Setup) (x : Split) → is_setup s ≡ true → IsReached s x → SplitStandsFor s x old → IsEnded s new

abbrev pub TellsBoundary : {D : Type 0} → SplitState D TimeState → Bool → Type 0
TellsBoundary state answer = (s : Setup) (x : Split) → SplitStandsFor s x state → answer ≡ is_boundary x

abbrev pub Reports : {D : Type 0} → SplitState D TimeState → Final → Type 0
Reports state last =
    (s : Setup) (x : Split) → is_setup s ≡ true → IsReached s x → SplitStandsFor s x state
    → is_boundary x ≡ true → last ≡ final s x.place.run.demand.machine.cycle

abbrev pub GoesBack : {D : Type 0} → SplitState D TimeState → SplitState D TimeState → Type 0
GoesBack old new =
    (s : Setup) (x : Split) → is_setup s ≡ true → IsReached s x → SplitStandsFor s x old
    → is_boundary x ≡ true
    → ContentsStandFor s (mono s x.place.run.demand.machine.cycle).arch new.func.contents

-- Whatever state of its run it stood for, what it had committed stays in the one that follows from it in this way.
abbrev pub Keeps : {D : Type 0} → (Setup → Split → Split) → SplitState D TimeState → SplitState D TimeState → Type 0
Keeps follow old new =
    (s : Setup) (x : Split) → is_setup s ≡ true → IsReached s x → SplitStandsFor s x old
    → HoldsCommitted s x (follow s x) old new

-- Some events lead from a state to the one that it stands for, and what was committed there stays.
pub record IsPlayedFrom {D : Type 0} (s : Setup) (x : Split) (old new : SplitState D TimeState) : Type 0 where
  pub events : List Event
  pub stands : SplitStandsFor s (played s events x) new
  pub kept : HoldsCommitted s x (played s events x) old new

-- Whatever state of its run it stood for, some events were played from there.
abbrev pub PlaysOn : {D : Type 0} → SplitState D TimeState → SplitState D TimeState → Type 0
PlaysOn old new =
    (s : Setup) (x : Split) → is_setup s ≡ true → IsReached s x → SplitStandsFor s x old
    → IsPlayedFrom s x old new

-- It stands where the cycle after that of a state starts; where the run has ended, its last order is not told yet.
pub record IsAtNextCycle {D : Type 0} (s : Setup) (x : Split) (state : SplitState D TimeState) : Type 0 where
  pub split : Split
  pub reached : IsReached s split
  pub stands : SplitStandsFor s split state
  pub boundary : is_boundary split ≡ true
  pub cycle : split.place.run.demand.machine.cycle ≡ x.place.run.demand.machine.cycle + 1
  pub unstopped : is_halted split.place.run.at ≡ false

-- From the start of a cycle of a run that goes on, it came to the start of the next.
abbrev pub GoesToNextCycle : {D : Type 0} → SplitState D TimeState → SplitState D TimeState → Type 0
GoesToNextCycle old new =
    (s : Setup) (x : Split) → is_setup s ≡ true → IsReached s x → SplitStandsFor s x old
    → is_boundary x ≡ true → has_ended x.place.run.demand.machine.end ≡ false → IsAtNextCycle s x new

-- and at the end of the run
abbrev pub KeepsToEnd : {D : Type 0} → SplitState D TimeState → SplitState D TimeState → Type 0
KeepsToEnd old new =
    (s : Setup) (x : Split) → is_setup s ≡ true → IsReached s x → SplitStandsFor s x old
    → (end : IsEnded s new) → HoldsCommitted s x end.split old new

-- it stands for a state that events lead to
pub record IsUnderWay {D : Type 0} (s : Setup) (state : SplitState D TimeState) : Type 0 where
  pub split : Split
  pub reached : IsReached s split
  pub stands : SplitStandsFor s split state

-- these bytes are what the functional side has committed of the output, and so the beginning of the run's
pub record IsCommitted (s : Setup) (x : Split) (bytes : List ℕ) : Type 0 where
  pub output : bytes ≡ (path s x.obeyed x.committed_number).output
  pub begins : GrowsTo bytes (mono s s.cycles).arch.output

abbrev pub TellsCommitted : {D : Type 0} → SplitState D TimeState → List ℕ → Type 0
TellsCommitted state bytes =
    (s : Setup) (x : Split) → is_setup s ≡ true → IsReached s x → SplitStandsFor s x state → IsCommitted s x bytes
