-- Which numbers orders have, in a list of them, the newest first.
use Rattle.std.specs.Prelude.{◌≡◌, ℕ, ◌+◌, ◌*◌, ◌≤◌, ◌<◌, List, [], ◌∷◌, length}
use Rattle.rollback_cmds.specs.declared.order.Order.{Order}
use Rattle.rollback_cmds.specs.declared.order.Order.TheVariants.{Set, Commit, Interrupt, Time, Stop, Sync}
use Rattle.mono_model.specs.declared.setup.Setup.{Setup}
use Rattle.mono_model.specs.Demand.{Place, told, number_of}

-- the number of the newest Commit, and 0 where there is none
abbrev pub last_commit : List Order → ℕ
last_commit [] = 0
last_commit (Set m addr ∷ os) = last_commit os
last_commit (Commit m ∷ os) = m
last_commit (Interrupt m ∷ os) = last_commit os
last_commit (Time m v ∷ os) = last_commit os
last_commit (Stop m ∷ os) = last_commit os
last_commit (Sync m ∷ os) = last_commit os

-- the number of each order lies from that of the last Commit before it to that plus the window
pub record IsNumbered (s : Setup) (os : List Order) (o : Order) : Type 0 where
  pub least : last_commit os ≤ number_of o
  pub most : number_of o ≤ last_commit os + s.params.core_window

abbrev pub AreNumbered : Setup → List Order → Type 0
AreNumbered s [] = Unit {0}
AreNumbered s (o ∷ os) = IsNumbered s os o × AreNumbered s os

-- each Commit commits more than the last one before it, and Interrupt, Time, Stop and Sync have the number of that one
abbrev pub IsAtCommit : List Order → Order → Type 0
IsAtCommit os (Set m addr) = Unit {0}
IsAtCommit os (Commit m) = last_commit os < m
IsAtCommit os (Interrupt m) = m ≡ last_commit os
IsAtCommit os (Time m v) = m ≡ last_commit os
IsAtCommit os (Stop m) = m ≡ last_commit os
IsAtCommit os (Sync m) = m ≡ last_commit os

abbrev pub AreAtCommit : List Order → Type 0
AreAtCommit [] = Unit {0}
AreAtCommit (o ∷ os) = IsAtCommit os o × AreAtCommit os

-- no order has a number above this one
abbrev pub AreAtMost : ℕ → List Order → Type 0
AreAtMost n [] = Unit {0}
AreAtMost n (o ∷ os) = number_of o ≤ n × AreAtMost n os

-- How far the numbers of a run go.
pub record IsBounded (s : Setup) (k : ℕ) (p : Place) : Type 0 where
  pub cycle : p.run.demand.machine.cycle ≤ s.cycles
  pub to_commit : p.run.demand.to_commit ≤ s.params.core_commit * s.cycles
  pub numbers : AreAtMost (s.params.core_commit * s.cycles + s.params.core_window) (told p)
  -- each step tells one order at most
  pub orders : length (told p) ≤ k
