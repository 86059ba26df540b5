-- What holds of the next order of a run, and of the numbers under the orders before it.
use Rattle.std.specs.Prelude.{◌≡◌, ◌+◌, ◌^◌, ◌<◌, true, false, List, ◌∷◌}
use Rattle.rollback_cmds.specs.declared.order.Order.{Order}
use Rattle.rollback_cmds.specs.Order.{opens_epoch_of}
use Rattle.mono_model.specs.declared.setup.Setup.{Setup}
use Rattle.mono_model.specs.Path.{openings, has_stop}
use Rattle.mono_model.specs.Demand.{number_of, first}
use Rattle.mono_model.specs.Split.{room}
use Rattle.machine_laws.specs.Numbers.{last_commit, IsNumbered, IsAtCommit}
use Rattle.machine_laws.specs.Output.{IsInRoom}
use Rattle.machine_laws.specs.Told.{AreTold}

-- How far a functional side's position and epoch go under these orders.
pub record AreSmall (s : Setup) (os : List Order) : Type 0 where
  pub position : last_commit os + room s < 2 ^ 62
  pub epoch : openings os < 2 ^ 62

-- A functional side that has obeyed the orders before it may obey the next one.
pub record MayObeyNext (s : Setup) (os : List Order) (o : Order) : Type 0 where
  pub told : AreTold s (o ∷ os)
  -- its number lies from the committed one to that plus the window
  pub numbered : IsNumbered s os o
  -- where it commits, or stops, that is at or above what is committed
  pub kind : IsAtCommit os o
  -- no Stop comes before it
  pub running : has_stop os ≡ false
  -- what it commits has room in the output
  pub output : IsInRoom s os o
  -- the epoch that it opens begins at its number
  pub opening : opens_epoch_of o ≡ true → first s (openings (o ∷ os)) ≡ number_of o
