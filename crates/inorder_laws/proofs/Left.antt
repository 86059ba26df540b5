-- From any place there are few steps to the next start of a cycle.
use Rattle.std.proofs.Common.{◌≡◌, ℕ, zero, suc, ◌+◌, ◌-◌, ◌≤◌, ◌<◌, ◌==◌, ◌&&◌, if◌then◌else◌, Bool, true, false, Option, length, refl, arith}
use Rattle.rollback_cmds.specs.declared.order.Order.TheVariants.{Time}
use Rattle.mono_model.specs.declared.setup.Setup.{Setup}
use Rattle.mono_model.specs.Final.{has_ended}
use Rattle.mono_model.specs.Commit.{Committed, commits}
use Rattle.mono_model.specs.Fetch.{fetch_try}
use Rattle.mono_model.specs.Cycle.{end_of_cycle}
use Rattle.mono_model.specs.Demand.{Demand}
use Rattle.mono_model.specs.Split.{is_cycle_start, is_place_boundary}
use Rattle.machine_laws.proofs.Reaching.{interrupt_count, commit_count, redirect_count, try_count, if_one_more}
use Rattle.inorder_machine.specs.InorderMachine.{in_execute}
use Rattle.inorder_machine.specs.Write.{write_width, inorder_commit}
use Rattle.inorder_machine.specs.Execute.{moving_by, moving}
use Rattle.inorder_machine.specs.Issue.{inorder_wants_time}
use Rattle.inorder_machine.specs.Fetch.{inorder_may_fetch}
use Rattle.inorder_machine.specs.Demand.{InorderAt, interrupting, writing, accessing, executing, issuing, trying, ending, stopping, halted, inorder_in, demand_inorder_issue, InorderRun, inorder_turn_at, inorder_turn, InorderPlace, inorder_step_by, inorder_step, inorder_place, seen_at, seen_of}
use Rattle.inorder_laws.proofs.Always.{inorder_owed_behind, at_each_turn}

-- at most so many turns to the next start of a cycle, with one more for a second order of Write
abbrev pub inorder_left_at : InorderAt → ℕ
inorder_left_at interrupting = 0
inorder_left_at writing = 7
inorder_left_at accessing = 5
inorder_left_at executing = 4
inorder_left_at issuing = 3
inorder_left_at trying = 2
inorder_left_at ending = 1
inorder_left_at stopping = 0
inorder_left_at halted = 0

abbrev pub inorder_steps_left : InorderPlace → ℕ
inorder_steps_left p = p.owed + inorder_left_at p.run.at

-- with the orders that a turn leaves to be told
abbrev LeftBehind : Demand → InorderRun → ℕ
LeftBehind d r = length r.demand.orders - length d.orders - 1 + inorder_left_at r.at

either_left : (b : Bool) (x y : InorderAt) (n : ℕ) → inorder_left_at x ≤ n → inorder_left_at y ≤ n → inorder_left_at (if b then x else y) ≤ n
either_left true x y n first second = first
either_left false x y n first second = second

turn_left : (s : Setup) (at : InorderAt) (d : Demand) (memory : Option ℕ) → is_cycle_start (seen_at at) ≡ false → LeftBehind d (inorder_turn_at s at d memory) < inorder_left_at at
unfolding inorder_commit moving
turn_left s interrupting d memory on = cc
turn_left s writing d memory on =
    let c : Committed = commits s (write_width (inorder_in d memory)) 0 d.machine in
    omega (arith, commit_count c d, either_left (has_ended c.machine.end) ending accessing 5 (omega arith) (omega arith))
turn_left s accessing d memory on = omega arith
turn_left s executing d memory on =
    let x = moving_by s (in_execute d.machine.window) (inorder_in d memory) in
    omega (arith, redirect_count x.completed.redirect (d.to_commit + length x.completed.records) d.orders)
turn_left s issuing d memory on =
    let behind : Demand = demand_inorder_issue s memory d in
    omega (
      arith,
      if_one_more (inorder_wants_time s d.machine) (Time d.to_commit d.machine.cycle) d.orders,
      either_left (inorder_may_fetch behind.machine) trying ending 2 (omega arith) (omega arith),
    )
turn_left s trying d memory on = omega (arith, try_count s (fetch_try s d.machine) d)
turn_left s ending d memory on =
    omega (arith, either_left (has_ended (end_of_cycle s d.machine).end) stopping interrupting 0 (omega arith) (omega arith))
turn_left s stopping d memory on = cc
turn_left s halted d memory on = cc

by_owed : (s : Setup) (owed : ℕ) (r : InorderRun) → (owed == 0 && is_cycle_start (seen_at r.at)) ≡ false →
    inorder_steps_left (inorder_step_by s owed r) < inorder_steps_left (record { run = r; owed = owed })
unfolding inorder_turn
by_owed s zero r on = omega (arith, turn_left s r.at r.demand r.memory on)
by_owed s (suc owed) r on = omega arith

-- a step off the start of a cycle leaves fewer
pub inorder_step_left : (s : Setup) (p : InorderPlace) → is_place_boundary (seen_of p) ≡ false → inorder_steps_left (inorder_step s p) < inorder_steps_left p
unfolding inorder_step
inorder_step_left s p on = by_owed s p.owed p.run on

-- and there are never more than these
start_left : (s : Setup) (at : InorderAt) (d : Demand) (memory : Option ℕ) → is_cycle_start (seen_at at) ≡ true → LeftBehind d (inorder_turn_at s at d memory) ≤ 7
start_left s interrupting d memory on = omega (arith, interrupt_count d)
start_left s writing d memory on = cc
start_left s accessing d memory on = cc
start_left s executing d memory on = cc
start_left s issuing d memory on = cc
start_left s trying d memory on = cc
start_left s ending d memory on = cc
start_left s stopping d memory on = omega arith
start_left s halted d memory on = omega arith

turn_most : (s : Setup) (r : InorderRun) (b : Bool) → is_cycle_start (seen_at r.at) ≡ b → inorder_left_at r.at ≤ 7 → inorder_owed_behind s r + inorder_left_at (inorder_turn s r).at ≤ 7
unfolding inorder_turn
turn_most s r true on most = start_left s r.at r.demand r.memory on
turn_most s r false on most = omega (arith, turn_left s r.at r.demand r.memory on)

pub inorder_place_left : (s : Setup) (k : ℕ) → inorder_steps_left (inorder_place s k) ≤ 7
inorder_place_left s =
    at_each_turn s (λ k r owed. owed + inorder_left_at r.at ≤ 7) (omega arith)
    (λ k r most. turn_most s r (is_cycle_start (seen_at r.at)) refl (omega (arith, most))) (λ k owed r most. omega arith)
