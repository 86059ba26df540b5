-- The sizes that a predictor can have.
use Rattle.std.specs.Prelude.{◌≤◌, ◌==◌, ◌||◌, IsTrue}
use Rattle.std.specs.Int.{is_power_of_two}
use Rattle.branch_predictor.specs.declared.params.PredParams.{PredParams}

pub record IsInRange (p : PredParams) : Type 0 where
  pub counters : IsTrue (is_power_of_two p.counters)
  pub counters_limit : p.counters ≤ 65536
  pub history_limit : p.history ≤ 16
  pub targets : IsTrue (p.targets == 0 || is_power_of_two p.targets)
  pub targets_limit : p.targets ≤ 65536
