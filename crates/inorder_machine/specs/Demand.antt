-- The demand run of the in-order machine: its run with instruction numbers and orders written beside it, cut into turns
-- and steps.
use Rattle.std.specs.Prelude.{ℕ, zero, suc, ◌+◌, ◌-◌, ◌*◌, if◌then◌else◌, Option, None, List, [], ◌∷◌, length, reverse}
use Rattle.rollback_cmds.specs.declared.order.Order.{Order}
use Rattle.rollback_cmds.specs.declared.order.Order.TheVariants.{Time, Stop}
use Rattle.mono_model.specs.declared.setup.Setup.{Setup}
use Rattle.mono_model.specs.Final.{has_ended}
use Rattle.mono_model.specs.Machine.{machine_start}
use Rattle.mono_model.specs.Fetch.{fetch_try}
use Rattle.mono_model.specs.Cycle.{end_of_cycle}
use Rattle.mono_model.specs.Demand as run
use Rattle.mono_model.specs.Demand.{Demand, Place, demand_interrupt, demand_committed, redirect_orders, demand_try, told}
use Rattle.inorder_machine.specs.InorderMachine.{InorderMachine, memory_behind}
use Rattle.inorder_machine.specs.Write.{inorder_commit}
use Rattle.inorder_machine.specs.Memory.{went_on}
use Rattle.inorder_machine.specs.Execute.{Moved, moving, executed}
use Rattle.inorder_machine.specs.Issue.{inorder_wants_time, issue_machine}
use Rattle.inorder_machine.specs.Fetch.{inorder_may_fetch}

-- Which turn comes next.
pub data InorderAt : Type 0 where
  interrupting : InorderAt
  writing : InorderAt
  accessing : InorderAt
  executing : InorderAt
  issuing : InorderAt
  -- the try of fetch
  trying : InorderAt
  -- the end of the cycle
  ending : InorderAt
  -- the last order
  stopping : InorderAt
  halted : InorderAt

-- The in-order machine, with what the demand run of the monolithic machine writes beside that.
pub record InorderRun : Type 0 where
  pub demand : Demand
  pub memory : Option ℕ
  pub at : InorderAt

abbrev pub inorder_run_start : Setup → InorderRun
inorder_run_start s = record { demand = record { machine = machine_start s; to_commit = 0; orders = [] }; memory = None; at = interrupting }

abbrev pub inorder_in : Demand → Option ℕ → InorderMachine
inorder_in d memory = record { machine = d.machine; memory = memory }

abbrev pub inorder_run_at : Demand → Option ℕ → InorderAt → InorderRun
inorder_run_at d memory at = record { demand = d; memory = memory; at = at }

-- behind a phase that may flush all of the window
abbrev pub inorder_run_behind : Demand → Option ℕ → InorderAt → InorderRun
inorder_run_behind d memory at = inorder_run_at d (memory_behind d.machine.window memory) at

-- The phases that are the machine's own, with their orders: a misprediction in Execute, and the time of a replay.
abbrev pub demand_moved : Moved → Demand → Demand
demand_moved x d = record d {
  machine = (executed x (inorder_in d None)).machine;
  orders = redirect_orders x.completed.redirect (d.to_commit + length x.completed.records) d.orders;
}

abbrev pub inorder_time_orders : Setup → Demand → List Order
inorder_time_orders s d = if inorder_wants_time s d.machine then Time d.to_commit d.machine.cycle ∷ d.orders else d.orders

abbrev pub demand_inorder_issue : Setup → Option ℕ → Demand → Demand
demand_inorder_issue s memory d = record d { machine = issue_machine s (inorder_in d memory); orders = inorder_time_orders s d }

abbrev pub at_after_write : Demand → InorderAt
at_after_write d = if has_ended d.machine.end then ending else accessing

abbrev pub at_after_issue : Demand → InorderAt
at_after_issue d = if inorder_may_fetch d.machine then trying else ending

abbrev pub at_after_end : Demand → InorderAt
at_after_end d = if has_ended d.machine.end then stopping else interrupting

abbrev pub inorder_turn_at : Setup → InorderAt → Demand → Option ℕ → InorderRun
inorder_turn_at s interrupting d memory = inorder_run_behind (demand_interrupt d) memory writing
inorder_turn_at s writing d memory =
    let behind = demand_committed (inorder_commit s (inorder_in d memory)) d in
    inorder_run_behind behind memory (at_after_write behind)
inorder_turn_at s accessing d memory = inorder_run_at d (went_on d.machine.cycle memory) executing
inorder_turn_at s executing d memory = let x = moving s (inorder_in d memory) in inorder_run_at (demand_moved x d) x.memory issuing
inorder_turn_at s issuing d memory =
    let behind = demand_inorder_issue s memory d in
    inorder_run_behind behind memory (at_after_issue behind)
inorder_turn_at s trying d memory = inorder_run_at (demand_try s (fetch_try s d.machine) d) memory ending
inorder_turn_at s ending d memory =
    let behind = record d { machine = end_of_cycle s d.machine } in
    inorder_run_at behind memory (at_after_end behind)
inorder_turn_at s stopping d memory = inorder_run_at (record d { orders = Stop d.to_commit ∷ d.orders }) memory halted
inorder_turn_at s halted d memory = inorder_run_at d memory halted

-- one turn
unfoldable pub inorder_turn : Setup → InorderRun → InorderRun
inorder_turn s r = inorder_turn_at s r.at r.demand r.memory

-- A place: a run whose turn was made, and how many of its newest orders were not told yet.
pub record InorderPlace : Type 0 where
  pub run : InorderRun
  pub owed : ℕ

abbrev pub inorder_place_start : Setup → InorderPlace
inorder_place_start s = record { run = inorder_run_start s; owed = 0 }

-- a turn is one step where it has at most one order, else one step an order
abbrev pub inorder_moved : Setup → InorderRun → InorderPlace
inorder_moved s r =
    let behind = inorder_turn s r in
    record { run = behind; owed = length behind.demand.orders - length r.demand.orders - 1 }

abbrev pub inorder_step_by : Setup → ℕ → InorderRun → InorderPlace
inorder_step_by s zero r = inorder_moved s r
inorder_step_by s (suc owed) r = record { run = r; owed = owed }

unfoldable pub inorder_step : Setup → InorderPlace → InorderPlace
inorder_step s p = inorder_step_by s p.owed p.run

-- the place after so many steps
unfoldable pub inorder_place : Setup → ℕ → InorderPlace
inorder_place s zero = inorder_place_start s
inorder_place s (suc k) = inorder_step s (inorder_place s k)

-- What the split state sees of a place: what it sees of one of the monolithic machine's. The orders told there, whether
-- it needs an entry and which, and the number of the next record fetched are those of what is seen.
abbrev pub seen_at : InorderAt → run.At
seen_at interrupting = run.interrupting
seen_at writing = run.committing
seen_at accessing = run.completing
seen_at executing = run.completing
seen_at issuing = run.issuing
seen_at trying = run.trying 0
seen_at ending = run.ending
seen_at stopping = run.stopping
seen_at halted = run.halted

abbrev pub seen_of : InorderPlace → Place
seen_of p = record { run = record { demand = p.run.demand; at = seen_at p.run.at }; owed = p.owed }

abbrev pub seen : Setup → ℕ → Place
seen s k = seen_of (inorder_place s k)

-- No run has more steps than these before it stands still: a cycle has its interrupt, at most two orders of Write, one
-- step each of Memory, Execute, issue and fetch, and its end.
abbrev pub inorder_step_bound : Setup → ℕ
inorder_step_bound s = s.cycles * 8 + 2

-- all orders of the run, the first in front
unfoldable pub inorder_orders : Setup → List Order
inorder_orders s = reverse (told (seen s (inorder_step_bound s)))
