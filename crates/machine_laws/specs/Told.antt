-- From the list of a run's orders back to the steps that tell them.
use Rattle.std.specs.Prelude.{◌≡◌, ℕ, suc, Some, List, ◌∷◌, length}
use Rattle.rollback_cmds.specs.declared.order.Order.{Order}
use Rattle.mono_model.specs.declared.setup.Setup.{Setup}
use Rattle.mono_model.specs.Path.{entry, openings}
use Rattle.mono_model.specs.Demand.{place, told, entry_in}
use Rattle.mono_model.specs.Split.{told_by}

-- Behind some steps these orders are told, the newest first.
pub record AreTold (s : Setup) (os : List Order) : Type 0 where
  pub steps : ℕ
  pub are : told (place s steps) ≡ os

-- A step tells this order, and these were told before it.
pub record IsToldBehind (s : Setup) (os : List Order) (o : Order) : Type 0 where
  pub steps : ℕ
  pub before : told (place s steps) ≡ os
  pub tells : told_by (place s steps) (place s (suc steps)) ≡ Some o
  pub behind : told (place s (suc steps)) ≡ o ∷ os

-- A step tells this order, and so many were told before it.
pub record IsToldAt (s : Setup) (count : ℕ) (o : Order) : Type 0 where
  pub before : List Order
  pub length_is : length before ≡ count
  pub told : IsToldBehind s before o

-- An entry under these orders has its epoch and number, and is the one that they name.
pub record HasName (s : Setup) (os : List Order) (n : ℕ) : Type 0 where
  pub epoch : (entry s os n).epoch ≡ openings os
  pub number : (entry s os n).number ≡ n
  pub named : entry s os n ≡ entry_in s (entry s os n).epoch (entry s os n).number
