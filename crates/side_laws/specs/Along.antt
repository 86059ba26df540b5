-- A functional side along a run, and what its calls ask for.
use Rattle.std.specs.Prelude.{◌≡◌, ◌+◌, ◌^◌, ◌≤◌, ◌<◌, true, List}
use Rattle.rollback_cmds.specs.declared.order.Order.{Order}
use Rattle.mono_model.specs.declared.setup.Setup.{Setup}
use Rattle.mono_model.specs.Demand.{number_of}
use Rattle.mono_model.specs.Split.{room}
use Rattle.machine_laws.specs.Told.{AreTold}
use Rattle.func_model.specs.declared.walk.Walk.{Walk}
use Rattle.func_model.specs.Walk.{WalkStandsFor, HasRoom}

-- The side has obeyed the first orders of the run, and is no further ahead of what is committed
-- than its journal has room.
pub record IsAlong {D : Type 0} (s : Setup) (os : List Order) (side : Walk D) : Type 0 where
  pub stands : WalkStandsFor s os side
  pub told : AreTold s os
  pub most : side.position ≤ side.committed + room s
  -- once it is stopped it is at what is committed
  pub stopped : side.is_stopped ≡ true → side.position ≡ side.committed

-- what it asks for before it obeys an order
pub record MayObey {D : Type 0} (order : Order) (side : Walk D) : Type 0 where
  pub reach : side.is_stopped ≡ true → number_of order ≤ side.position
  pub from : side.committed ≤ number_of order
  pub room : number_of order ≤ side.committed + side.journal.room
  pub number : number_of order < 2 ^ 62
  pub position : side.position < 2 ^ 62
  pub epoch : side.epoch < 2 ^ 62
  pub within : HasRoom order side side.limit

-- and before it produces an entry
pub record MayProduce {D : Type 0} (side : Walk D) : Type 0 where
  pub position : side.position < 2 ^ 62
  pub epoch : side.epoch < 2 ^ 62
