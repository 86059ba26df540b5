-- What a functional side along a run has committed stays.
use Rattle.std.proofs.Common.{◌≡◌, ℕ, ◌≤◌, List, ◌++◌, sym, ◌∙◌, subst, arith}
use Rattle.rollback_cmds.specs.declared.order.Order.{Order}
use Rattle.mono_model.specs.declared.setup.Setup.{Setup}
use Rattle.mono_model.specs.Demand.{place, told}
use Rattle.machine_laws.specs.Stays.{KeepsBelow, KeepsAt}
use Rattle.machine_laws.proofs.SplitStaying.{told_rises, told_below, told_at}
use Rattle.machine_laws.proofs.Staying.{done_told}
use Rattle.func_model.specs.declared.walk.Walk.{Walk}
use Rattle.side_laws.specs.Along.{IsAlong}
use Rattle.side_laws.proofs.Obeying.{along_committed}

pub along_rises : {D : Type 0} (s : Setup) (os later : List Order) (old new : Walk D) → IsAlong s os old → IsAlong s (later ++ os) new → old.committed ≤ new.committed
along_rises s os later old new from to = omega (arith, along_committed s os old from, along_committed s (later ++ os) new to, told_rises s os later to.told)

pub along_below : {D : Type 0} (s : Setup) (os later : List Order) (old new : Walk D) → IsAlong s os old → IsAlong s (later ++ os) new → KeepsBelow s old.committed os later
along_below s os later old new from to = subst (λ (n : ℕ). KeepsBelow s n os later) (sym (along_committed s os old from)) (told_below s os later to.told)

pub along_at : {D : Type 0} (s : Setup) (k : ℕ) (later : List Order) (old new : Walk D) → (place s k).owed ≡ 0 → IsAlong s (told (place s k)) old → IsAlong s (later ++ told (place s k)) new →
    KeepsAt s old.committed (told (place s k)) later
along_at s k later old new all from to =
    subst (λ (n : ℕ). KeepsAt s n (told (place s k)) later) (done_told s k ∙ sym (along_committed s (told (place s k)) old from)) (told_at s k later all to.told)
