-- What the orders commit, as the functional side counts it and as the laws do.
use Rattle.std.proofs.Common.{◌≡◌, refl, List, [], ◌∷◌}
use Rattle.rollback_cmds.specs.declared.order.Order.{Order}
use Rattle.rollback_cmds.specs.declared.order.Order.TheVariants.{Set, Commit, Interrupt, Time, Stop, Sync}
use Rattle.machine_laws.specs.Numbers.{last_commit, AreAtCommit}
use Rattle.func_model.specs.Walk.{committed_of}

-- the last Commit has the number that is committed
pub committed_is : (os : List Order) → AreAtCommit os → committed_of os ≡ last_commit os
committed_is [] at = refl
committed_is (Set m addr ∷ os) at = committed_is os at.1
committed_is (Commit m ∷ os) at = refl
committed_is (Interrupt m ∷ os) at = at.0
committed_is (Time m v ∷ os) at = committed_is os at.1
committed_is (Stop m ∷ os) at = committed_is os at.1
committed_is (Sync m ∷ os) at = at.0
