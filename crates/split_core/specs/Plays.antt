-- Some events were played, whichever they are.
use Rattle.std.specs.Prelude.{◌≡◌, None, List, []}
use Rattle.mono_model.specs.declared.setup.Setup.{Setup}
use Rattle.mono_model.specs.Split.{Event}
use Rattle.split_core.specs.Along.{At, played_on, IsReachedOn}
use Rattle.split_core.specs.Timed.{Timed}
use Rattle.split_core.specs.declared.state.SplitState.{SplitState}
use Rattle.split_core.specs.Standing.{StandsOn}

-- a core stands for the state behind some events, from a state on
pub record IsPlayed {D T : Type 0} (timed : Timed T) (s : Setup) (x : At) (state : SplitState D T) : Type 0 where
  pub events : List Event
  pub stands : StandsOn timed s (played_on s (timed.run s) events x) state

-- Whatever state of its run it stood for, some events were played from there.
abbrev pub Plays : {D T : Type 0} → Timed T → SplitState D T → SplitState D T → Type 0
Plays timed old new =
    (s : Setup) (x : At) → timed.allows s → IsReachedOn s (timed.run s) x → StandsOn timed s x old
    → IsPlayed timed s x new

-- nothing is under way between the sides
pub record IsClear {D T : Type 0} (state : SplitState D T) : Type 0 where
  pub computed : state.computed ≡ None
  pub hand : state.hand ≡ None
  pub entries : state.entries.items ≡ []
  pub orders : state.listed_orders.items ≡ []
