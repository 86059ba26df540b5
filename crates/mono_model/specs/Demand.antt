-- The demand run: the monolithic run with instruction numbers and orders written beside it, cut into turns and steps.
-- It says which orders the timing side gives, and which entry it needs at each place.
use Rattle.std.specs.Prelude.{ℕ, zero, suc, ◌+◌, ◌-◌, ◌*◌, ◌==◌, if◌then◌else◌, Bool, true, false, Option, Some, None, List, [], ◌∷◌, length, reverse, drop}
use Rattle.rollback_cmds.specs.declared.order.Order.{Order}
use Rattle.rollback_cmds.specs.declared.order.Order.TheVariants.{Set, Commit, Interrupt, Time, Stop, Sync}
use Rattle.rollback_cmds.specs.Order.{opens_epoch_of}
use Rattle.trace_entry.specs.declared.Entry.{Entry}
use Rattle.mono_model.specs.declared.setup.Setup.{Setup}
use Rattle.mono_model.specs.Final.{has_ended}
use Rattle.mono_model.specs.Machine.{Machine, machine_start}
use Rattle.mono_model.specs.Interrupt.{is_interrupted, interrupt_phase}
use Rattle.mono_model.specs.Commit.{Committed, Ending, plain, trap, sync, commit_phase}
use Rattle.mono_model.specs.Complete.{completes, complete_phase}
use Rattle.mono_model.specs.Issue.{wants_time, issue_phase}
use Rattle.mono_model.specs.Fetch.{Try, misses, appends, turns, may_fetch, fetch_try, predicted_next}
use Rattle.mono_model.specs.Cycle.{end_of_cycle}
use Rattle.mono_model.specs.Path.{entry, openings}

pub record Demand : Type 0 where
  pub machine : Machine
  -- the number of the next instruction to commit; the record at place i of the window has number to_commit + i
  pub to_commit : ℕ
  -- the orders so far, the newest first
  pub orders : List Order

-- the number of the next record fetched
abbrev pub next : Demand → ℕ
next d = d.to_commit + length d.machine.window

-- The phases, with their orders.
abbrev pub interrupt_orders : Demand → List Order
interrupt_orders d = if is_interrupted d.machine then Interrupt d.to_commit ∷ d.orders else d.orders

abbrev pub demand_interrupt : Demand → Demand
demand_interrupt d = record d { machine = interrupt_phase d.machine; orders = interrupt_orders d }

-- Commit first, if records left, and then what the ending asks for
abbrev pub ending_orders : Ending → ℕ → ℕ → List Order → List Order
ending_orders plain handler done os = os
ending_orders trap handler done os = Set done handler ∷ os
ending_orders sync handler done os = Sync done ∷ os

abbrev pub commit_order : ℕ → ℕ → List Order → List Order
commit_order zero done os = os
commit_order (suc left) done os = Commit done ∷ os

abbrev pub demand_committed : Committed → Demand → Demand
demand_committed c d = record {
  machine = c.machine;
  to_commit = d.to_commit + c.left;
  orders = ending_orders c.ending c.machine.arch.pc (d.to_commit + c.left) (commit_order c.left (d.to_commit + c.left) d.orders);
}

abbrev pub demand_commit : Setup → Demand → Demand
demand_commit s d = demand_committed (commit_phase s d.machine) d

-- a misprediction: the record behind the mispredicted one stands elsewhere
abbrev pub redirect_orders : Option ℕ → ℕ → List Order → List Order
redirect_orders None behind os = os
redirect_orders (Some addr) behind os = Set behind addr ∷ os

abbrev pub demand_complete : Demand → Demand
demand_complete d =
    let c = completes d.machine.cycle d.machine.window in
    record d { machine = complete_phase d.machine; orders = redirect_orders c.redirect (d.to_commit + length c.records) d.orders }

abbrev pub time_orders : Setup → Demand → List Order
time_orders s d = if wants_time s d.machine then Time d.to_commit d.machine.cycle ∷ d.orders else d.orders

abbrev pub demand_issue : Setup → Demand → Demand
demand_issue s d = record d { machine = issue_phase s d.machine; orders = time_orders s d }

-- a record appended where the path doesn't go as predicted: the functional side follows the prediction
abbrev pub path_orders : Setup → Demand → List Order
path_orders s d =
    if (entry s d.orders (next d)).next == predicted_next s d.machine
    then d.orders
    else Set (next d + 1) (predicted_next s d.machine) ∷ d.orders

abbrev pub demand_try : Setup → Try → Demand → Demand
demand_try s (misses behind) d = record d { machine = behind }
demand_try s (appends behind) d = record d { machine = behind; orders = path_orders s d }
demand_try s (turns behind) d = record d { machine = behind; orders = path_orders s d }

-- Which turn comes next.
pub data At : Type 0 where
  interrupting : At
  committing : At
  completing : At
  issuing : At
  -- a try of fetch, with so many more allowed behind it
  trying : ℕ → At
  -- the end of the cycle
  ending : At
  -- the last order
  stopping : At
  halted : At

pub record Run : Type 0 where
  pub demand : Demand
  pub at : At

abbrev pub run_start : Setup → Run
run_start s = record { demand = record { machine = machine_start s; to_commit = 0; orders = [] }; at = interrupting }

-- a try where one may be made, else the end of the cycle
abbrev pub try_or_end : Setup → ℕ → Demand → At
try_or_end s zero d = ending
try_or_end s (suc more) d = if may_fetch s d.machine then trying more else ending

abbrev pub at_after_commit : Demand → At
at_after_commit d = if has_ended d.machine.end then ending else completing

abbrev pub at_after_try : Setup → Try → ℕ → Demand → At
at_after_try s (misses behind) more d = ending
at_after_try s (appends behind) more d = try_or_end s more d
at_after_try s (turns behind) more d = ending

abbrev pub at_after_cycle : Demand → At
at_after_cycle d = if has_ended d.machine.end then stopping else interrupting

abbrev pub run_at : Demand → At → Run
run_at d at = record { demand = d; at = at }

abbrev pub tried_turn : Setup → Try → ℕ → Demand → Run
tried_turn s t more d = let behind = demand_try s t d in run_at behind (at_after_try s t more behind)

abbrev pub turn_at : Setup → At → Demand → Run
turn_at s interrupting d = run_at (demand_interrupt d) committing
turn_at s committing d = let behind = demand_commit s d in run_at behind (at_after_commit behind)
turn_at s completing d = run_at (demand_complete d) issuing
turn_at s issuing d = let behind = demand_issue s d in run_at behind (try_or_end s s.params.core_fetch behind)
turn_at s (trying more) d = tried_turn s (fetch_try s d.machine) more d
turn_at s ending d = let behind = record d { machine = end_of_cycle s d.machine } in run_at behind (at_after_cycle behind)
turn_at s stopping d = run_at (record d { orders = Stop d.to_commit ∷ d.orders }) halted
turn_at s halted d = run_at d halted

-- one turn
unfoldable pub turn : Setup → Run → Run
turn s r = turn_at s r.at r.demand

-- A place: a run whose turn was made, and how many of its newest orders were not told yet.
pub record Place : Type 0 where
  pub run : Run
  pub owed : ℕ

abbrev pub place_start : Setup → Place
place_start s = record { run = run_start s; owed = 0 }

-- a turn is one step where it has at most one order, else one step an order
abbrev pub moved : Setup → Run → Place
moved s r = let behind = turn s r in record { run = behind; owed = length behind.demand.orders - length r.demand.orders - 1 }

abbrev pub step_by : Setup → ℕ → Run → Place
step_by s zero r = moved s r
step_by s (suc owed) r = record { run = r; owed = owed }

unfoldable pub step : Setup → Place → Place
step s p = step_by s p.owed p.run

-- the place after so many steps
unfoldable pub place : Setup → ℕ → Place
place s zero = place_start s
place s (suc k) = step s (place s k)

-- the orders told up to a place, the newest first
abbrev pub told : Place → List Order
told p = drop p.owed p.run.demand.orders

-- A place before a try of fetch needs the entry of the next record.
abbrev pub is_try : At → Bool
is_try interrupting = false
is_try committing = false
is_try completing = false
is_try issuing = false
is_try (trying more) = true
is_try ending = false
is_try stopping = false
is_try halted = false

abbrev pub needs_entry : Place → Bool
needs_entry p = if p.owed == 0 then is_try p.run.at else false

abbrev pub needed_entry : Setup → Place → Entry
needed_entry s p = entry s p.run.demand.orders (next p.run.demand)

-- No run has more steps than these before it stands still: a cycle has its interrupt, at most two orders of commit, one
-- of complete, one of issue, its tries and its end.
abbrev pub step_bound : Setup → ℕ
step_bound s = s.cycles * (s.params.core_fetch + 6) + 2

-- all orders of the run, the first in front
unfoldable pub orders : Setup → List Order
orders s = reverse (told (place s (step_bound s)))

-- the order in so many places, counted from 0
abbrev pub order_in : List Order → ℕ → Option Order
order_in [] n = None
order_in (o ∷ os) zero = Some o
order_in (o ∷ os) (suc n) = order_in os n

abbrev pub order : Setup → ℕ → Option Order
order s n = order_in (orders s) n

-- the number that an order speaks of
abbrev pub number_of : Order → ℕ
number_of (Set n addr) = n
number_of (Commit n) = n
number_of (Interrupt n) = n
number_of (Time n v) = n
number_of (Stop n) = n
number_of (Sync n) = n

-- the number in an order, if it is an opening and no epoch is left to be opened before the one that is asked for; else
-- that of a later one
abbrev pub opening_number : Bool → ℕ → ℕ → ℕ → ℕ
opening_number true zero number later = number
opening_number true (suc left) number later = later
opening_number false left number later = later

-- in a list of orders, the first in front, where `left` more epochs are opened before the one that is asked for
abbrev pub opening_in : List Order → ℕ → ℕ
opening_in [] left = 0
opening_in (o ∷ os) left = opening_number (opens_epoch_of o) left (number_of o) (opening_in os (if opens_epoch_of o then left - 1 else left))

-- the number in the order that opens an epoch, at which it begins; 0 for epoch 0 and where no order opens it
unfoldable pub first : Setup → ℕ → ℕ
first s zero = 0
first s (suc epoch) = opening_in (orders s) epoch

-- the shortest front of the orders that opens so many epochs, the newest first; all, where they open fewer
abbrev pub prefix_with : List Order → List Order → ℕ → List Order
prefix_with os [] epoch = os
prefix_with os (o ∷ rest) epoch =
    if openings os == epoch then os else prefix_with (o ∷ os) rest epoch

-- the entry of an instruction in an epoch
unfoldable pub entry_in : Setup → ℕ → ℕ → Entry
entry_in s epoch n = entry s (prefix_with [] (orders s) epoch) n
