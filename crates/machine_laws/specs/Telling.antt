-- Which order a step tells.
use Rattle.std.specs.Prelude.{◌≡◌, ℕ, Option, Some, None, List, ◌∷◌}
use Rattle.rollback_cmds.specs.declared.order.Order.{Order}
use Rattle.rollback_cmds.specs.declared.order.Order.TheVariants.{Set, Commit, Interrupt, Time, Stop, Sync}

-- a list with an order in front, if there is one
abbrev pub with_order : Option Order → List Order → List Order
with_order None os = os
with_order (Some o) os = o ∷ os

-- an order that opens an epoch, but Stop, has this number
abbrev pub OpensAt : ℕ → Order → Type 0
OpensAt n (Set m addr) = m ≡ n
OpensAt n (Commit m) = Unit {0}
OpensAt n (Interrupt m) = m ≡ n
OpensAt n (Time m v) = m ≡ n
OpensAt n (Stop m) = Unit {0}
OpensAt n (Sync m) = m ≡ n
