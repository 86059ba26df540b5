-- The orders of a phase as a list.
use Rattle.std.specs.Prelude.{Option, Some, None, List, [], ◌∷◌}
use Rattle.rollback_cmds.specs.declared.order.Order.{Order}
use Rattle.timing_core.specs.declared.orders.Orders.{Orders}

-- of two orders at most, the newest first; a second without a first is none
abbrev pub newest_first : Option Order → Option Order → List Order
newest_first None second = []
newest_first (Some first) None = first ∷ []
newest_first (Some first) (Some second) = second ∷ first ∷ []

abbrev pub orders_in : Orders → List Order
orders_in os = newest_first os.first os.second

-- with one more order, if it is one
abbrev pub and_then : Option Order → List Order → List Order
and_then None os = os
and_then (Some o) os = o ∷ os
