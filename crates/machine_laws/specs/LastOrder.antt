-- The end of the list of a run's orders.
use Rattle.std.specs.Prelude.{◌≡◌, ◌==◌, ℕ, suc, Some, List, length, reverse}
use Rattle.rollback_cmds.specs.declared.order.Order.{Order}
use Rattle.mono_model.specs.declared.setup.Setup.{Setup}
use Rattle.mono_model.specs.Cycle.{mono}
use Rattle.mono_model.specs.Path.{path, stops}
use Rattle.mono_model.specs.Demand.{place, told, step_bound, orders, order}
use Rattle.machine_laws.specs.Numbers.{last_commit}

-- A place of the list has an order, and that is a Stop exactly where the place is the last.
pub record HasOrder (s : Setup) (i : ℕ) : Type 0 where
  pub held : Order
  pub is : order s i ≡ Some held
  pub last : stops held ≡ (suc i == length (orders s))

-- These are all orders of the run, and what they commit is the state in which the monolithic
-- machine ends.
pub record AreAll (s : Setup) (os : List Order) : Type 0 where
  pub told : told (place s (step_bound s)) ≡ os
  pub orders : orders s ≡ reverse os
  pub state : path s os (last_commit os) ≡ (mono s s.cycles).arch
