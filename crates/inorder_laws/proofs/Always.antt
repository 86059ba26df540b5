-- What each turn of the in-order machine keeps holds at each place of its demand run.
use Rattle.std.proofs.Common.{ℕ, zero, suc, ◌-◌, Option, None, length}
use Rattle.mono_model.specs.declared.setup.Setup.{Setup}
use Rattle.mono_model.specs.Demand.{Demand}
use Rattle.machine_laws.proofs.Always.{demand_start}
use Rattle.inorder_machine.specs.Demand.{InorderAt, interrupting, InorderRun, inorder_run_start, inorder_turn_at, inorder_turn, inorder_step_by, inorder_step, inorder_place}

module _ (s : Setup) (P : InorderAt → Demand → Option ℕ → Type 0) (at_start : P interrupting (demand_start s) None)
    (by_turn : (at : InorderAt) (d : Demand) (memory : Option ℕ) → P at d memory →
    P (inorder_turn_at s at d memory).at (inorder_turn_at s at d memory).demand (inorder_turn_at s at d memory).memory) where
  by_owed : (owed : ℕ) (r : InorderRun) → P r.at r.demand r.memory →
      P (inorder_step_by s owed r).run.at (inorder_step_by s owed r).run.demand (inorder_step_by s owed r).run.memory
  unfolding inorder_turn
  by_owed zero r holds = by_turn r.at r.demand r.memory holds
  by_owed (suc owed) r holds = holds

  pub always : (k : ℕ) → P (inorder_place s k).run.at (inorder_place s k).run.demand (inorder_place s k).run.memory
  unfolding inorder_place inorder_step
  always zero = at_start
  always (suc k) = by_owed (inorder_place s k).owed (inorder_place s k).run (always k)

-- how many orders a turn leaves to be told
abbrev pub inorder_owed_behind : Setup → InorderRun → ℕ
inorder_owed_behind s r = length (inorder_turn s r).demand.orders - length r.demand.orders - 1

-- turn by turn, and order by order: `P k r owed` of the run after `k` steps, of which so many orders are owed
module _ (s : Setup) (P : ℕ → InorderRun → ℕ → Type 0) (at_start : P 0 (inorder_run_start s) 0)
    (by_turn : (k : ℕ) (r : InorderRun) → P k r 0 → P (suc k) (inorder_turn s r) (inorder_owed_behind s r))
    (by_order : (k owed : ℕ) (r : InorderRun) → P k r (suc owed) → P (suc k) r owed) where
  by_step : (k owed : ℕ) (r : InorderRun) → P k r owed → P (suc k) (inorder_step_by s owed r).run (inorder_step_by s owed r).owed
  by_step k zero r holds = by_turn k r holds
  by_step k (suc owed) r holds = by_order k owed r holds

  pub at_each_turn : (k : ℕ) → P k (inorder_place s k).run (inorder_place s k).owed
  unfolding inorder_place inorder_step
  at_each_turn zero = at_start
  at_each_turn (suc k) = by_step k (inorder_place s k).owed (inorder_place s k).run (at_each_turn k)
