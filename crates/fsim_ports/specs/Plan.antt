-- Which calls of a file store or a sink in memory are to fail.
use Rattle.std.specs.Prelude.{ℕ, Bool, List, [], ◌∷◌, ◌++◌, ◌==◌}
use Rattle.std.specs.List.{list_any}
use Rattle.fsim_ports.specs.Count.{risen}

-- the calls so far, those that are to fail (counted from 1), and the faults so far
pub record Plan : Type 0 where
  pub calls : ℕ
  pub failing : List ℕ
  pub faults : ℕ

abbrev pub empty_plan : Plan
empty_plan = record { calls = 0; failing = []; faults = 0 }

-- the plan with one more call that is to fail
abbrev pub with_failing : Plan → ℕ → Plan
with_failing plan call = record plan { failing = plan.failing ++ call ∷ [] }

-- the next call is to fail
abbrev pub is_to_fail : Plan → Bool
is_to_fail plan = list_any (λ call. call == risen plan.calls) plan.failing

-- the plan after a call
abbrev pub called : Plan → Plan
called plan = record plan { calls = risen plan.calls }

-- the plan with one more fault
abbrev pub faulted : Plan → Plan
faulted plan = record plan { faults = risen plan.faults }
