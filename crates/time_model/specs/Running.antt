-- What several steps of a timing side make of it.
use Rattle.std.specs.Prelude.{◌≡◌, ℕ, Bool, true, false}
use Rattle.mono_model.specs.declared.setup.Setup.{Setup}
use Rattle.time_model.specs.declared.state.TimingState.{TimingState}
use Rattle.time_model.specs.declared.turn.Turn.{Turn}
use Rattle.time_model.specs.declared.turn.Turn.TheVariants.{Moved, Ordered, Want, CycleEnd, Halted}
use Rattle.time_model.specs.Piped.{Piped}
use Rattle.time_model.specs.Standing.{SideStandsFor, IsStep, ends_in}

-- a step that was made and told no order
abbrev pub is_silent : Turn → Bool
is_silent Moved = true
is_silent (Ordered order) = false
is_silent Want = false
is_silent CycleEnd = true
is_silent Halted = false

-- some steps were made, and none told an order
pub data IsSilent {T : Type 0} (step : T → T → Turn → Type 0) (old : T) : T → Type 0 where
  start : IsSilent step old old
  more : (mid new : T) (turn : Turn) → IsSilent step old mid → step mid new turn → is_silent turn ≡ true → IsSilent step old new

-- some steps were made that told no order, and behind them one that did this
pub record IsRun {T : Type 0} (step : T → T → Turn → Type 0) (old new : T) (turn : Turn) : Type 0 where
  pub behind : T
  pub silent : IsSilent step old behind
  pub last : step behind new turn

-- A step was made, or tried for, whatever run the side stood for.
abbrev pub Steps : {P A : Type 0} → Piped P A → TimingState P A → TimingState P A → Turn → Type 0
Steps piped old new turn = (s : Setup) (k : ℕ) → piped.allows s → SideStandsFor piped s k old → IsStep piped s k old new turn

-- one that ends no cycle
pub record IsInner {P A : Type 0} (piped : Piped P A) (old new : TimingState P A) (turn : Turn) : Type 0 where
  pub made : Steps piped old new turn
  pub inner : ends_in piped old ≡ false

-- Some steps were made that told no order and ended no cycle, and after them one that did this; it may have ended one.
pub record IsRunInCycle {P A : Type 0} (piped : Piped P A) (old new : TimingState P A) (turn : Turn) : Type 0 where
  pub behind : TimingState P A
  pub silent : IsSilent (IsInner piped) old behind
  pub last : Steps piped behind new turn
