-- How the path goes on from what is committed, under the orders made so far.
use Rattle.std.specs.Prelude.{◌≡◌, ℕ, suc, ◌≤◌, ◌<◌, if◌then◌else◌, Option, Some, None, IfSome, List, [], ◌∷◌}
use Rattle.rollback_cmds.specs.declared.order.Order.{Order}
use Rattle.rollback_cmds.specs.declared.order.Order.TheVariants.{Set, Commit, Interrupt, Time, Stop, Sync}
use Rattle.rollback_cmds.specs.Order.{opens_epoch_of}
use Rattle.mono_model.specs.declared.setup.Setup.{Setup}
use Rattle.mono_model.specs.Sequence.{seq}
use Rattle.mono_model.specs.Path.{path, time_of}
use Rattle.mono_model.specs.Demand.{Demand, next, number_of}

-- each order but Set has a number of at most `n`
abbrev pub AreAtMostButSet : ℕ → List Order → Type 0
AreAtMostButSet n [] = Unit {0}
AreAtMostButSet n (Set m addr ∷ os) = AreAtMostButSet n os
AreAtMostButSet n (Commit m ∷ os) = (m ≤ n) × AreAtMostButSet n os
AreAtMostButSet n (Interrupt m ∷ os) = (m ≤ n) × AreAtMostButSet n os
AreAtMostButSet n (Time m v ∷ os) = (m ≤ n) × AreAtMostButSet n os
AreAtMostButSet n (Stop m ∷ os) = (m ≤ n) × AreAtMostButSet n os
AreAtMostButSet n (Sync m ∷ os) = (m ≤ n) × AreAtMostButSet n os

-- the newest order that opens an epoch
abbrev pub last_opening : List Order → Option Order
last_opening [] = None
last_opening (o ∷ os) = if opens_epoch_of o then Some o else last_opening os

-- behind instruction `n` the path is what the sequential step makes there
abbrev pub IsStep : Setup → List Order → ℕ → Type 0
IsStep s os n = path s os (suc n) ≡ seq s (time_of os n) (path s os n)

-- the same, but for the address of the next instruction
abbrev pub IsStepButAddress : Setup → List Order → ℕ → Type 0
IsStepButAddress s os n =
    path s os (suc n) ≡ record (seq s (time_of os n) (path s os n)) { pc = (path s os (suc n)).pc }

-- What the orders made so far leave of the path.
pub record GoesOnward (s : Setup) (d : Demand) : Type 0 where
  -- each order but Set speaks of the next instruction to commit or an earlier one
  pub orders : AreAtMostButSet d.to_commit d.orders
  -- so no later instruction was given a time
  pub times : (n : ℕ) → d.to_commit < n → time_of d.orders n ≡ None
  -- and from the next instruction to commit on the path is executed, but for addresses
  pub steps : (n : ℕ) → d.to_commit ≤ n → IsStepButAddress s d.orders n
  -- the last order that opened an epoch speaks of the record to fetch next or an earlier one
  pub opening : IfSome (last_opening d.orders) (λ o. number_of o ≤ next d)
  -- so from there on the path is what is executed, address and all
  pub onward : (n : ℕ) → next d ≤ n → IsStep s d.orders n
