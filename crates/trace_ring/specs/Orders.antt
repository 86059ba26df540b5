-- The order rule. The orders are those of the demand run, each in its place.
use Rattle.std.specs.Prelude.{◌≡◌, ℕ, Some, List, length}
use Rattle.rollback_cmds.specs.declared.order.Order.{Order}
use Rattle.mono_model.specs.declared.setup.Setup.{Setup}
use Rattle.mono_model.specs.Demand.{order}

-- the demand run's order in this place, counted from 0
abbrev pub IsInPlace : Setup → ℕ → Order → Type 0
IsInPlace setup place o = order setup place ≡ Some o

-- the rule: behind the orders `before`, o may be pushed
abbrev pub IsNext : Setup → List Order → Order → Type 0
IsNext setup before o = IsInPlace setup (length before) o
