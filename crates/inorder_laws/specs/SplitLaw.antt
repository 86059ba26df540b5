-- The law of the split state of the in-order machine: the law of the split state, along the demand run of that machine.
use Rattle.std.specs.Prelude.{◌≡◌, ℕ, true, List, []}
use Rattle.trace_entry.specs.declared.Entry.{Entry}
use Rattle.mono_model.specs.declared.setup.Setup.{Setup}
use Rattle.mono_model.specs.Path.{entry}
use Rattle.mono_model.specs.Demand.{prefix_with}
use Rattle.mono_model.specs.Split.{Event}
use Rattle.machine_laws.specs.DemandRun.{DemandRun}
use Rattle.machine_laws.specs.SplitLaw.{IsRunIn}
use Rattle.inorder_machine.specs.Cycle.{inorder}
use Rattle.inorder_machine.specs.Demand.{inorder_place, seen_of, seen, inorder_step_bound, inorder_orders}
use Rattle.inorder_machine.specs.Split.{InorderSplit, inorder_run}
use Rattle.inorder_laws.specs.Runs.{starts_cycle, IsInorderPlace}

-- the entry of an instruction in an epoch
unfoldable pub inorder_entry_in : Setup → ℕ → ℕ → Entry
inorder_entry_in s epoch n = entry s (prefix_with [] (inorder_orders s) epoch) n

-- what the split state sees of the run: a cycle commits one instruction at most
abbrev pub inorder_demand_run : Setup → DemandRun
inorder_demand_run s = record {
  places = seen s;
  machines = λ c. (inorder s c).machine;
  commits = s.cycles;
  bound = inorder_step_bound s;
  entry_of = inorder_entry_in s;
}

pub record IsInorderRun (s : Setup) (x : InorderSplit) : Type 0 where
  -- the timing side is at a place of the demand run, and the split state sees that
  pub steps : ℕ
  pub at : x.place ≡ inorder_place s steps
  pub sees : x.split.place ≡ seen_of x.place
  -- where a cycle starts and at the end, its state is that of the in-order machine
  pub state : starts_cycle x.place.run.at ≡ true → IsInorderPlace s x.place
  -- and of all else holds what holds of the monolithic machine's split state
  pub law : IsRunIn s (inorder_demand_run s) x.split

-- some events lead to the state
pub record IsInorderReached (s : Setup) (x : InorderSplit) : Type 0 where
  pub events : List Event
  pub is : x ≡ inorder_run s events
