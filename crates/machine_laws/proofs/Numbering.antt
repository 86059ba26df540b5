-- The window is never longer than it may be, and orders have numbers within it.
use Rattle.std.proofs.Common.{◌≡◌, ℕ, zero, suc, ◌+◌, ◌≤◌, ◌<◌, ◌==◌, ◌&&◌, nat_le, nat_lt, if◌then◌else◌, Bool, true, false, Option, Some, None, List, [], ◌∷◌, length, drop, refl, sym, subst, arith}
use Rattle.std.proofs.lemmas.Bool.{cond_both, and_parts, ltb-true}
use Rattle.rollback_cmds.specs.declared.order.Order.{Order}
use Rattle.rollback_cmds.specs.declared.order.Order.TheVariants.{Set, Commit, Interrupt, Time, Stop, Sync}
use Rattle.mono_model.specs.declared.setup.Setup.{Setup}
use Rattle.mono_model.specs.Final.{has_ended}
use Rattle.mono_model.specs.Machine.{Machine, machine_start}
use Rattle.mono_model.specs.Window.{Record, waiting_count}
use Rattle.mono_model.specs.Interrupt.{is_interrupted}
use Rattle.mono_model.specs.Commit.{Ending, plain, trap, sync, Committed, commit_phase}
use Rattle.mono_model.specs.Complete.{completes}
use Rattle.mono_model.specs.Issue.{wants_time}
use Rattle.mono_model.specs.Fetch.{Try, misses, appends, turns, may_fetch, fetch_try, predicted_next}
use Rattle.mono_model.specs.Path.{entry}
use Rattle.mono_model.specs.Cycle.{end_of_cycle}
use Rattle.mono_model.specs.Demand.{Demand, next, ending_orders, commit_order, demand_committed, redirect_orders, path_orders, demand_issue, demand_try, At, interrupting, committing, completing, issuing, trying, ending, stopping, halted, try_or_end, at_after_cycle, tried_turn, turn_at, place, told, number_of}
use Rattle.machine_laws.specs.Numbers.{last_commit, AreNumbered, AreAtCommit}
use Rattle.machine_laws.proofs.Phases.{interrupt_window, CommittedFrom, commit_from, completes_from, complete_kept, issue_kept, Tries, try_tries}
use Rattle.machine_laws.proofs.Always.{demand_start, always}

-- The list of orders as far as it goes, where so many instructions are committed.
pub record IsOrderly (s : Setup) (n : ℕ) (os : List Order) : Type 0 where
  pub to_commit : n ≡ last_commit os
  pub numbers : AreNumbered s os
  pub kinds : AreAtCommit os

module _ (s : Setup) (n : ℕ) (os : List Order) (is : IsOrderly s n os) where
  numbered : (o : Order) → n ≤ number_of o → number_of o ≤ n + s.params.core_window → AreNumbered s (o ∷ os)
  numbered o least most = (record { least = omega (arith, is.to_commit); most = omega (arith, is.to_commit) }, is.numbers)

  pub set_orderly : (m addr : ℕ) → n ≤ m → m ≤ n + s.params.core_window → IsOrderly s n (Set m addr ∷ os)
  set_orderly m addr least most = record { to_commit = is.to_commit; numbers = numbered (Set m addr) least most; kinds = (tt, is.kinds) }

  pub interrupt_orderly : IsOrderly s n (Interrupt n ∷ os)
  interrupt_orderly = record { to_commit = is.to_commit; numbers = numbered (Interrupt n) (omega arith) (omega arith); kinds = (is.to_commit, is.kinds) }

  pub time_orderly : (v : ℕ) → IsOrderly s n (Time n v ∷ os)
  time_orderly v = record { to_commit = is.to_commit; numbers = numbered (Time n v) (omega arith) (omega arith); kinds = (is.to_commit, is.kinds) }

  pub stop_orderly : IsOrderly s n (Stop n ∷ os)
  stop_orderly = record { to_commit = is.to_commit; numbers = numbered (Stop n) (omega arith) (omega arith); kinds = (is.to_commit, is.kinds) }

  sync_orderly : IsOrderly s n (Sync n ∷ os)
  sync_orderly = record { to_commit = is.to_commit; numbers = numbered (Sync n) (omega arith) (omega arith); kinds = (is.to_commit, is.kinds) }

  commit_orderly : (m : ℕ) → n < m → m ≤ n + s.params.core_window → IsOrderly s m (Commit m ∷ os)
  commit_orderly m more most = record { to_commit = refl; numbers = numbered (Commit m) (omega arith) most; kinds = (omega (arith, is.to_commit), is.kinds) }

pub left_orderly : (s : Setup) (n left m : ℕ) (os : List Order) → m ≡ n + left → left ≤ s.params.core_window → IsOrderly s n os → IsOrderly s m (commit_order left m os)
left_orderly s n zero m os e most is = subst (λ (k : ℕ). IsOrderly s k os) (omega arith) is
left_orderly s n (suc left) m os e most is = commit_orderly s n os is m (omega arith) (omega arith)

pub ending_orderly : (s : Setup) (e : Ending) (handler n : ℕ) (os : List Order) → IsOrderly s n os → IsOrderly s n (ending_orders e handler n os)
ending_orderly s plain handler n os is = is
ending_orderly s trap handler n os is = set_orderly s n os is n handler (omega arith) (omega arith)
ending_orderly s sync handler n os is = sync_orderly s n os is

pub redirect_orderly : (s : Setup) (redirect : Option ℕ) (n m : ℕ) (os : List Order) → n ≤ m → m ≤ n + s.params.core_window → IsOrderly s n os → IsOrderly s n (redirect_orders redirect m os)
redirect_orderly s None n m os least most is = is
redirect_orderly s (Some addr) n m os least most is = set_orderly s n os is m addr least most

-- At each turn the window is within its size, and has room where a try may be made.
abbrev pub HasRoomFor : Setup → At → Machine → Type 0
HasRoomFor s interrupting m = Unit {0}
HasRoomFor s committing m = Unit {0}
HasRoomFor s completing m = Unit {0}
HasRoomFor s issuing m = Unit {0}
HasRoomFor s (trying more) m = length m.window < s.params.core_window
HasRoomFor s ending m = Unit {0}
HasRoomFor s stopping m = Unit {0}
HasRoomFor s halted m = Unit {0}

pub record IsWithin (s : Setup) (at : At) (d : Demand) : Type 0 where
  pub orders : IsOrderly s d.to_commit d.orders
  pub window : length d.machine.window ≤ s.params.core_window
  pub room : HasRoomFor s at d.machine

start_within : (s : Setup) → IsWithin s interrupting (demand_start s)
unfolding machine_start
start_within s = record { orders = record { to_commit = refl; numbers = tt; kinds = tt }; window = omega arith; room = tt }

may_room : (s : Setup) (m : Machine) → may_fetch s m ≡ true → length m.window < s.params.core_window
unfolding may_fetch
may_room s m may =
    ltb-true (length m.window) s.params.core_window
    (and_parts (nat_le m.resume m.cycle) (nat_lt (length m.window) s.params.core_window)
    (and_parts (nat_le m.resume m.cycle && nat_lt (length m.window) s.params.core_window) (nat_lt (waiting_count m.window) s.params.core_stations) may).0).1

commit_within : (s : Setup) (d : Demand) (c : Committed) → CommittedFrom s d.machine c → IsWithin s committing d → (b : Bool) → IsWithin s (if b then ending else completing) (demand_committed c d)
commit_within s d c from is b = by_test b
  where
    ordered : IsOrderly s (d.to_commit + c.left) (ending_orders c.ending c.machine.arch.pc (d.to_commit + c.left) (commit_order c.left (d.to_commit + c.left) d.orders))
    ordered =
        ending_orderly s c.ending c.machine.arch.pc (d.to_commit + c.left) (commit_order c.left (d.to_commit + c.left) d.orders)
        (left_orderly s d.to_commit c.left (d.to_commit + c.left) d.orders refl (omega (arith, from.window, is.window)) is.orders)

    by_test : (b : Bool) → IsWithin s (if b then ending else completing) (demand_committed c d)
    by_test true = record { orders = ordered; window = omega (arith, from.window, is.window); room = tt }
    by_test false = record { orders = ordered; window = omega (arith, from.window, is.window); room = tt }

-- fetch begins or goes on where there is room
try_or_end_within : (s : Setup) (more : ℕ) (d : Demand) → IsOrderly s d.to_commit d.orders → length d.machine.window ≤ s.params.core_window → IsWithin s (try_or_end s more d) d
try_or_end_within s zero d orders window = record { orders = orders; window = window; room = tt }
try_or_end_within s (suc more) d orders window =
    cond_both (may_fetch s d.machine) (trying more) ending (λ at. IsWithin s at d)
    (λ may. record { orders = orders; window = window; room = may_room s d.machine may })
    (λ may. record { orders = orders; window = window; room = tt })

pub path_orderly : (s : Setup) (d : Demand) → IsOrderly s d.to_commit d.orders → length d.machine.window < s.params.core_window → IsOrderly s d.to_commit (path_orders s d)
path_orderly s d is room =
    cond_both ((entry s d.orders (next d)).next == predicted_next s d.machine) d.orders (Set (next d + 1) (predicted_next s d.machine) ∷ d.orders) (IsOrderly s d.to_commit)
    (λ e. is) (λ e. set_orderly s d.to_commit d.orders is (next d + 1) (predicted_next s d.machine) (omega arith) (omega arith))

try_within : (s : Setup) (t : Try) (more : ℕ) (d : Demand) → Tries d.machine t → IsWithin s (trying more) d → IsWithin s (tried_turn s t more d).at (tried_turn s t more d).demand
try_within s (misses behind) more d made is = record { orders = is.orders; window = omega (arith, made.window, is.window); room = tt }
try_within s (appends behind) more d made is =
    try_or_end_within s more (demand_try s (appends behind) d) (path_orderly s d is.orders is.room) (omega (arith, made.window, is.room))
try_within s (turns behind) more d made is = record { orders = path_orderly s d is.orders is.room; window = omega (arith, made.window, is.room); room = tt }

pub cycle_end_window : (s : Setup) (m : Machine) → (end_of_cycle s m).window ≡ m.window
unfolding end_of_cycle
cycle_end_window s m = refl

after_within : (s : Setup) (d : Demand) → IsOrderly s d.to_commit d.orders → length d.machine.window ≤ s.params.core_window → IsWithin s (at_after_cycle d) d
after_within s d orders window =
    cond_both (has_ended d.machine.end) stopping interrupting (λ at. IsWithin s at d)
    (λ e. record { orders = orders; window = window; room = tt })
    (λ e. record { orders = orders; window = window; room = tt })

turn_within : (s : Setup) (at : At) (d : Demand) → IsWithin s at d → IsWithin s (turn_at s at d).at (turn_at s at d).demand
turn_within s interrupting d is = record {
  orders = cond_both (is_interrupted d.machine) (Interrupt d.to_commit ∷ d.orders) d.orders (IsOrderly s d.to_commit) (λ e. interrupt_orderly s d.to_commit d.orders is.orders) (λ e. is.orders);
  window = omega (arith, interrupt_window d.machine, is.window);
  room = tt;
}
turn_within s committing d is = commit_within s d (commit_phase s d.machine) (commit_from s d.machine) is (has_ended (commit_phase s d.machine).machine.end)
turn_within s completing d is =
    let c = completes d.machine.cycle d.machine.window in
    record {
      orders = redirect_orderly s c.redirect d.to_commit (d.to_commit + length c.records) d.orders (omega arith) (omega (arith, (completes_from d.machine.cycle d.machine.window).window, is.window)) is.orders;
      window = omega (arith, (complete_kept d.machine).window, is.window);
      room = tt;
    }
turn_within s issuing d is =
    try_or_end_within s s.params.core_fetch (demand_issue s d)
    (cond_both (wants_time s d.machine) (Time d.to_commit d.machine.cycle ∷ d.orders) d.orders (IsOrderly s d.to_commit) (λ e. time_orderly s d.to_commit d.orders is.orders d.machine.cycle) (λ e. is.orders))
    (omega (arith, (issue_kept s d.machine).window, is.window))
turn_within s (trying more) d is = try_within s (fetch_try s d.machine) more d (try_tries s d.machine) is
turn_within s ending d is =
    after_within s (record d { machine = end_of_cycle s d.machine }) is.orders
    (subst (λ (w : List Record). length w ≤ s.params.core_window) (sym (cycle_end_window s d.machine)) is.window)
turn_within s stopping d is = record { orders = stop_orderly s d.to_commit d.orders is.orders; window = is.window; room = tt }
turn_within s halted d is = is

pub place_within : (s : Setup) (k : ℕ) → IsWithin s (place s k).run.at (place s k).run.demand
place_within s = always s (IsWithin s) (start_within s) (turn_within s)

-- the window is never longer than it may be
pub window_within : (s : Setup) (k : ℕ) → length (place s k).run.demand.machine.window ≤ s.params.core_window
window_within s k = (place_within s k).window

-- the orders told are numbered as all of them are
pub drop_numbered : (s : Setup) (n : ℕ) (os : List Order) → AreNumbered s os → AreNumbered s (drop n os)
drop_numbered s zero os are = are
drop_numbered s (suc n) [] are = tt
drop_numbered s (suc n) (o ∷ os) are = drop_numbered s n os are.1

pub drop_at_commit : (n : ℕ) (os : List Order) → AreAtCommit os → AreAtCommit (drop n os)
drop_at_commit zero os are = are
drop_at_commit (suc n) [] are = tt
drop_at_commit (suc n) (o ∷ os) are = drop_at_commit n os are.1

pub orders_numbered : (s : Setup) (k : ℕ) → AreNumbered s (told (place s k))
orders_numbered s k = drop_numbered s (place s k).owed (place s k).run.demand.orders (place_within s k).orders.numbers

pub orders_at_commit : (s : Setup) (k : ℕ) → AreAtCommit (told (place s k))
orders_at_commit s k = drop_at_commit (place s k).owed (place s k).run.demand.orders (place_within s k).orders.kinds

-- what is committed is the number of the last Commit
pub done_is : (s : Setup) (k : ℕ) → (place s k).run.demand.to_commit ≡ last_commit (place s k).run.demand.orders
done_is s k = (place_within s k).orders.to_commit
