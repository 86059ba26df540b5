-- A machine that is played cycle by cycle: where it stands in the run of a setup, and what is reported of it.
use Rattle.std.specs.Prelude.{◌≡◌, ℕ, ◌+◌, ◌≤◌, ◌<◌, true, false, List}
use Rattle.mono_model.specs.declared.setup.Setup.{Setup}
use Rattle.mono_model.specs.declared.final_state.Final.{Final}
use Rattle.mono_model.specs.Setup.{is_setup}
use Rattle.mono_model.specs.Final.{has_ended}
use Rattle.mono_model.specs.Cycle.{final, mono}
use Rattle.mono_model.specs.Split.{Split, is_boundary, is_halted}
use Rattle.machine_laws.specs.Reached.{IsReached}
use Rattle.inorder_machine.specs.Setup.{IsInorder}
use Rattle.inorder_machine.specs.Cycle.{inorder, inorder_final}
use Rattle.inorder_machine.specs.Split.{InorderSplit}
use Rattle.inorder_laws.specs.SplitLaw.{IsInorderReached}
use Rattle.func_model.specs.Contents.{ContentsStandFor}
use Rattle.time_model.specs.OutOfOrder.{TimeState}
use Rattle.split_core.specs.declared.state.SplitState.{SplitState}
use Rattle.split_core.specs.Standing.{IsEnded, SplitStandsFor}
use Rattle.inorder_model.specs.Standing.{InorderState}
use Rattle.inorder_model.specs.Core.{InorderSplitStandsFor, IsInorderEnded}
use Rattle.insight_model.specs.declared.pipeline.Pipeline.{Pipeline}
use Rattle.insight_model.specs.declared.pipeline.Pipeline.TheVariants as pipeline
use Rattle.insight_model.specs.Sight.{Sight}
use Rattle.insight_model.specs.OfState.{inorder_sight, sight}

-- what is seen of a machine as a cycle of its run begins
abbrev pub sight_at : Pipeline → Setup → ℕ → Sight
sight_at pipeline.Window s cycle = sight (mono s cycle)
sight_at pipeline.Inorder s cycle = inorder_sight (inorder s cycle)

-- what is reported of its run
abbrev pub final_of : Pipeline → Setup → Final
final_of pipeline.Window s = final s s.cycles
final_of pipeline.Inorder s = inorder_final s s.cycles

abbrev pub output_of : Pipeline → Setup → List ℕ
output_of pipeline.Window s = (mono s s.cycles).arch.output
output_of pipeline.Inorder s = (inorder s s.cycles).machine.arch.output

-- How a machine is played.
pub record Plays (M : Type 0) : Type 1 where
  -- which machine it is
  pub pipeline : Pipeline
  -- it stands where this cycle of the run starts
  pub starts : Setup → ℕ → M → Type 0
  -- it was played to the end of the run
  pub ended : Setup → M → Type 0
  -- all was told of it that is reported
  pub reported : Setup → M → Type 0

-- it stands where some cycle of some run starts
pub record IsPlaying {M : Type 0} (plays : Plays M) (core : M) : Type 0 where
  pub setup : Setup
  pub cycle : ℕ
  pub starts : plays.starts setup cycle core

-- it stands where some cycle of this run starts
pub record IsPlayingRun {M : Type 0} (plays : Plays M) (s : Setup) (core : M) : Type 0 where
  pub cycle : ℕ
  pub starts : plays.starts s cycle core

-- it stands where a cycle of this run starts: this one, or the one with which the run has ended
pub record ComesTo {M : Type 0} (plays : Plays M) (s : Setup) (from : ℕ) (core : M) : Type 0 where
  pub cycle : ℕ
  pub starts : plays.starts s cycle core
  pub within : cycle ≤ from
  pub went : (k : ℕ) → k < cycle → has_ended (sight_at plays.pipeline s k).end ≡ false
  pub ended : cycle < from → has_ended (sight_at plays.pipeline s cycle).end ≡ true

-- some run was played to its end
pub record IsPlayedOut {M : Type 0} (plays : Plays M) (core : M) : Type 0 where
  pub setup : Setup
  pub ended : plays.ended setup core

-- The machine with a window.
pub record StartsWindow {D : Type 0} (s : Setup) (number : ℕ) (state : SplitState D TimeState) : Type 0 where
  pub sound : is_setup s ≡ true
  pub split : Split
  pub reached : IsReached s split
  pub stands : SplitStandsFor s split state
  pub boundary : is_boundary split ≡ true
  pub unstopped : is_halted split.place.run.at ≡ false
  pub cycle : split.place.run.demand.machine.cycle ≡ number

pub record EndedWindow {D : Type 0} (s : Setup) (state : SplitState D TimeState) : Type 0 where
  pub sound : is_setup s ≡ true
  pub ended : IsEnded s state

abbrev pub window_plays : {D : Type 0} → Plays (SplitState D TimeState)
window_plays = record {
  pipeline = pipeline.Window;
  starts = StartsWindow;
  ended = EndedWindow;
  reported = λ s state. ContentsStandFor s (mono s s.cycles).arch state.func.contents;
}

-- The in-order machine.
pub record StartsInorder {D : Type 0} (s : Setup) (number : ℕ) (state : SplitState D InorderState) : Type 0 where
  pub sound : IsInorder s
  pub split : InorderSplit
  pub reached : IsInorderReached s split
  pub stands : InorderSplitStandsFor s split state
  pub boundary : is_boundary split.split ≡ true
  pub unstopped : is_halted split.split.place.run.at ≡ false
  pub cycle : split.place.run.demand.machine.cycle ≡ number

pub record EndedInorder {D : Type 0} (s : Setup) (state : SplitState D InorderState) : Type 0 where
  pub sound : IsInorder s
  pub ended : IsInorderEnded s state

abbrev pub inorder_plays : {D : Type 0} → Plays (SplitState D InorderState)
inorder_plays = record {
  pipeline = pipeline.Inorder;
  starts = StartsInorder;
  ended = EndedInorder;
  reported = λ s state. ContentsStandFor s (inorder s s.cycles).machine.arch state.func.contents;
}
