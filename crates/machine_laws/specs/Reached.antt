-- The states of the split core that events lead to.
use Rattle.std.specs.Prelude.{◌≡◌, List}
use Rattle.mono_model.specs.declared.setup.Setup.{Setup}
use Rattle.mono_model.specs.Split.{Split, Event, run}

-- some events lead to the state
pub record IsReached (s : Setup) (x : Split) : Type 0 where
  pub events : List Event
  pub is : x ≡ run s events
