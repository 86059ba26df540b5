-- What an order commits has room in the output, and the output only grows.
use Rattle.std.specs.Prelude.{◌≡◌, ℕ, ◌≤◌, List, [], ◌∷◌, ◌++◌, length}
use Rattle.rollback_cmds.specs.declared.order.Order.{Order}
use Rattle.rollback_cmds.specs.declared.order.Order.TheVariants.{Set, Commit, Interrupt, Time, Stop, Sync}
use Rattle.mono_model.specs.declared.setup.Setup.{Setup}
use Rattle.mono_model.specs.Path.{path}

-- the bytes sent before the number of an order that commits are within the limit; `os` are the orders before it
abbrev pub IsInRoom : Setup → List Order → Order → Type 0
IsInRoom s os (Set m addr) = Unit {0}
IsInRoom s os (Commit m) = length (path s os m).output ≤ s.output
IsInRoom s os (Interrupt m) = length (path s os m).output ≤ s.output
IsInRoom s os (Time m v) = Unit {0}
IsInRoom s os (Stop m) = Unit {0}
IsInRoom s os (Sync m) = length (path s os m).output ≤ s.output

abbrev pub AreInRoom : Setup → List Order → Type 0
AreInRoom s [] = Unit {0}
AreInRoom s (o ∷ os) = IsInRoom s os o × AreInRoom s os

-- An earlier output is the beginning of a later one.
pub record GrowsTo (before after : List ℕ) : Type 0 where
  -- the bytes sent since
  pub sent : List ℕ
  pub output : after ≡ before ++ sent
