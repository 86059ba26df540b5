-- An entry that is taken, and the steps behind it.
use Rattle.std.specs.Prelude.{◌≡◌, ◌↔◌, Some}
use Rattle.trace_entry.specs.declared.Entry.{Entry}
use Rattle.time_model.specs.declared.side.Taken.{Taken}
use Rattle.time_model.specs.declared.side.Taken.TheVariants.{Used, Dropped}
use Rattle.time_model.specs.declared.state.TimingState.{TimingState}
use Rattle.time_model.specs.declared.turn.Turn.{Turn}
use Rattle.time_model.specs.Piped.{Piped}
use Rattle.time_model.specs.Running.{IsRunInCycle}

-- a side with this entry held
abbrev pub holding : {P A : Type 0} → Entry → TimingState P A → TimingState P A
holding entry side = record side { telling = record side.telling { held = Some entry } }

-- An entry of the side's epoch was held and any other dropped, and from the side behind that some steps were made, the
-- last of which did this and alone may have ended a cycle.
pub record IsFed {P A : Type 0} (piped : Piped P A) (entry : Entry) (old new : TimingState P A) (turn : Turn) : Type 0 where
  pub answer : Taken
  pub taken : TimingState P A
  pub used : answer ≡ Used → taken ≡ holding entry old
  pub dropped : answer ≡ Dropped → taken ≡ old
  pub by_epoch : (answer ≡ Used) ↔ (entry.epoch ≡ old.telling.epoch)
  pub run : IsRunInCycle piped taken new turn
