-- The path goes on by execution from what is committed on.
use Rattle.std.proofs.Common.{ℕ, ◌≤◌}
use Rattle.mono_model.specs.declared.setup.Setup.{Setup}
use Rattle.machine_laws.specs.Onward.{GoesOnward}
use Rattle.machine_laws.proofs.Onward.{demand_onward}
use Rattle.inorder_machine.specs.Demand.{inorder_place}
use Rattle.inorder_laws.proofs.Numbering.{place_within}
use Rattle.inorder_laws.proofs.Places.{place_related}

pub place_onward : (s : Setup) (k : ℕ) → 4 ≤ s.params.core_window → GoesOnward s (inorder_place s k).run.demand
place_onward s k room =
    let orders = (place_within s room k).orders in
    demand_onward s (inorder_place s k).run.demand (place_related s k) orders.kinds orders.to_commit
