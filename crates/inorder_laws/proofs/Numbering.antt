-- Orders have numbers within the window.
use Rattle.std.proofs.Common.{◌≡◌, ℕ, ◌+◌, ◌≤◌, ◌<◌, Option, ◌∷◌, length, refl, arith}
use Rattle.std.proofs.lemmas.Bool.{cond_both}
use Rattle.rollback_cmds.specs.declared.order.Order.TheVariants.{Interrupt, Time}
use Rattle.mono_model.specs.declared.setup.Setup.{Setup}
use Rattle.mono_model.specs.Interrupt.{is_interrupted}
use Rattle.mono_model.specs.Commit.{Committed, commits}
use Rattle.mono_model.specs.Fetch.{Try, misses, appends, turns, fetch_try}
use Rattle.mono_model.specs.Demand.{Demand, commit_order, demand_committed, demand_try, told}
use Rattle.machine_laws.specs.Numbers.{last_commit, AreNumbered, AreAtCommit}
use Rattle.machine_laws.proofs.Phases.{CommittedFrom, commits_from}
use Rattle.machine_laws.proofs.Numbering.{IsOrderly, interrupt_orderly, time_orderly, stop_orderly, left_orderly, ending_orderly, redirect_orderly, path_orderly, drop_numbered, drop_at_commit}
use Rattle.inorder_machine.specs.InorderMachine.{in_execute}
use Rattle.inorder_machine.specs.Write.{write_width, inorder_commit}
use Rattle.inorder_machine.specs.Execute.{moving_by, moving}
use Rattle.inorder_machine.specs.Issue.{inorder_wants_time}
use Rattle.inorder_machine.specs.Demand.{InorderAt, interrupting, writing, accessing, executing, issuing, trying, ending, stopping, halted, inorder_in, inorder_turn_at, inorder_place, seen}
use Rattle.inorder_laws.proofs.Always.{always}
use Rattle.inorder_laws.proofs.Leading.{moved_fewer}
use Rattle.inorder_laws.proofs.Stages.{Stands, stands_length, stands_room, start_stands, turn_stands}

-- At each turn the orders are numbered, and the stages are in order.
pub record IsWithin (s : Setup) (at : InorderAt) (d : Demand) (memory : Option ℕ) : Type 0 where
  pub orders : IsOrderly s d.to_commit d.orders
  stands : Stands at d.machine.window memory

module _ (s : Setup) (room : 4 ≤ s.params.core_window) where
  window_room : (at : InorderAt) (d : Demand) (memory : Option ℕ) → IsWithin s at d memory → length d.machine.window ≤ s.params.core_window
  window_room at d memory is = omega (arith, stands_length at d.machine.window memory is.stands)

  commit_within : (d : Demand) (c : Committed) → CommittedFrom s d.machine c → length d.machine.window ≤ s.params.core_window → IsOrderly s d.to_commit d.orders →
      IsOrderly s (demand_committed c d).to_commit (demand_committed c d).orders
  commit_within d c from window is =
      ending_orderly s c.ending c.machine.arch.pc (d.to_commit + c.left) (commit_order c.left (d.to_commit + c.left) d.orders)
      (left_orderly s d.to_commit c.left (d.to_commit + c.left) d.orders refl (omega (arith, from.window)) is)

  try_within : (t : Try) (d : Demand) → length d.machine.window < s.params.core_window → IsOrderly s d.to_commit d.orders → IsOrderly s (demand_try s t d).to_commit (demand_try s t d).orders
  try_within (misses behind) d more is = is
  try_within (appends behind) d more is = path_orderly s d is more
  try_within (turns behind) d more is = path_orderly s d is more

  turn_orderly : (at : InorderAt) (d : Demand) (memory : Option ℕ) → IsWithin s at d memory →
      IsOrderly s (inorder_turn_at s at d memory).demand.to_commit (inorder_turn_at s at d memory).demand.orders
  unfolding inorder_commit moving
  turn_orderly interrupting d memory is =
      cond_both (is_interrupted d.machine) (Interrupt d.to_commit ∷ d.orders) d.orders (IsOrderly s d.to_commit) (λ e. interrupt_orderly s d.to_commit d.orders is.orders) (λ e. is.orders)
  turn_orderly writing d memory is =
      commit_within d (commits s (write_width (inorder_in d memory)) 0 d.machine) (commits_from s (write_width (inorder_in d memory)) d.machine) (window_room writing d memory is) is.orders
  turn_orderly accessing d memory is = is.orders
  turn_orderly executing d memory is =
      let x = moving_by s (in_execute d.machine.window) (inorder_in d memory) in
      redirect_orderly s x.completed.redirect d.to_commit (d.to_commit + length x.completed.records) d.orders (omega arith)
      (omega (arith, moved_fewer s (inorder_in d memory) (in_execute d.machine.window), window_room executing d memory is)) is.orders
  turn_orderly issuing d memory is =
      cond_both (inorder_wants_time s d.machine) (Time d.to_commit d.machine.cycle ∷ d.orders) d.orders (IsOrderly s d.to_commit) (λ e. time_orderly s d.to_commit d.orders is.orders d.machine.cycle) (λ e. is.orders)
  turn_orderly trying d memory is = try_within (fetch_try s d.machine) d (omega (arith, stands_room d.machine.window memory is.stands)) is.orders
  turn_orderly ending d memory is = is.orders
  turn_orderly stopping d memory is = stop_orderly s d.to_commit d.orders is.orders
  turn_orderly halted d memory is = is.orders

  turn_within : (at : InorderAt) (d : Demand) (memory : Option ℕ) → IsWithin s at d memory →
      IsWithin s (inorder_turn_at s at d memory).at (inorder_turn_at s at d memory).demand (inorder_turn_at s at d memory).memory
  turn_within at d memory is = record { orders = turn_orderly at d memory is; stands = turn_stands s at d memory is.stands }

  pub place_within : (k : ℕ) → IsWithin s (inorder_place s k).run.at (inorder_place s k).run.demand (inorder_place s k).run.memory
  place_within = always s (IsWithin s) (record { orders = record { to_commit = refl; numbers = tt; kinds = tt }; stands = start_stands s }) turn_within

-- the orders told are numbered as all of them are
pub orders_numbered : (s : Setup) (k : ℕ) → 4 ≤ s.params.core_window → AreNumbered s (told (seen s k))
orders_numbered s k room = drop_numbered s (inorder_place s k).owed (inorder_place s k).run.demand.orders (place_within s room k).orders.numbers

pub orders_at_commit : (s : Setup) (k : ℕ) → 4 ≤ s.params.core_window → AreAtCommit (told (seen s k))
orders_at_commit s k room = drop_at_commit (inorder_place s k).owed (inorder_place s k).run.demand.orders (place_within s room k).orders.kinds

-- what is committed is the number of the last Commit
pub done_is : (s : Setup) (k : ℕ) → 4 ≤ s.params.core_window → (inorder_place s k).run.demand.to_commit ≡ last_commit (inorder_place s k).run.demand.orders
done_is s k room = (place_within s room k).orders.to_commit
