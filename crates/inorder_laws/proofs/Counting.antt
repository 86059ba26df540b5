-- What the in-order machine's run counts.
use Rattle.std.proofs.Common.{◌≡◌, ℕ, zero, suc, Option, Some, None, [], length, refl, arith}
use Rattle.std.proofs.lemmas.Bool.{cond_both}
use Rattle.mono_model.specs.declared.setup.Setup.{Setup}
use Rattle.mono_model.specs.Machine.{Machine, machine_start, flushed}
use Rattle.mono_model.specs.Commit.{commits}
use Rattle.mono_model.specs.Complete.{Completed, completed_by}
use Rattle.mono_model.specs.Issue.{replayed}
use Rattle.mono_model.specs.Fetch.{Try, misses, appends, turns, fetch_try}
use Rattle.mono_model.specs.Demand.{Demand, demand_try}
use Rattle.machine_laws.specs.Counts.{AreCounted}
use Rattle.machine_laws.proofs.Phases.{completes_from}
use Rattle.machine_laws.proofs.Counting.{CountsOn, same_counts, interrupt_counts, commits_counts, by_complete, TryCounts, try_counts, cycle_end_counts, counted_on, one_step}
use Rattle.inorder_machine.specs.InorderMachine.{InorderMachine, Executing, in_execute}
use Rattle.inorder_machine.specs.Write.{write_width, inorder_commit}
use Rattle.inorder_machine.specs.Execute.{Moved, unmoved, moved, may_move, moving_by, moving}
use Rattle.inorder_machine.specs.Issue.{inorder_wants_time, issued, issue_machine}
use Rattle.inorder_machine.specs.Demand.{InorderAt, interrupting, writing, accessing, executing, issuing, trying, ending, stopping, halted, inorder_in, demand_moved, InorderRun, inorder_turn_at, inorder_turn, inorder_step_by, inorder_step, inorder_place}
use Rattle.inorder_laws.proofs.Issuing.{issue_length}
use Rattle.inorder_laws.proofs.Leading.{moved_fewer}

-- without a misprediction all records stay
abbrev StayAll : Completed → ℕ → Type 0
StayAll c all = c.redirect ≡ None → length c.records ≡ all

moved_all : (s : Setup) (l : InorderMachine) (x : Option Executing) → StayAll (moving_by s x l).completed (length l.machine.window)
moved_all s l None = λ is. refl
moved_all s l (Some x) =
    cond_both (may_move l x) (moved s x l) (unmoved l) (λ k. StayAll k.completed (length l.machine.window))
    (λ may. (completes_from x.from l.machine.window).kept) (λ may is. refl)

execute_counts : (s : Setup) (d : Demand) (memory : Option ℕ) → CountsOn d.machine 0 1 (demand_moved (moving s (inorder_in d memory)) d).machine
unfolding moving
execute_counts s d memory =
    let x : Moved = moving_by s (in_execute d.machine.window) (inorder_in d memory) in
    let m : Machine = record d.machine { caches = x.caches } in
    let on : CountsOn m 0 1 (completed_by x.completed.redirect x.completed.records m) =
    by_complete x.completed.redirect x.completed.records m (moved_fewer s (inorder_in d memory) (in_execute d.machine.window)) (moved_all s (inorder_in d memory) (in_execute d.machine.window)) in
    record {
      records = on.records;
      fetched = on.fetched;
      interrupts = on.interrupts;
      replays = on.replays;
      mispredicted = on.mispredicted;
      exceptions = on.exceptions;
      branches = on.branches;
    }

issue_counts : (s : Setup) (l : InorderMachine) → CountsOn l.machine 0 1 (issue_machine s l)
unfolding flushed
issue_counts s l =
    cond_both (inorder_wants_time s l.machine) (replayed l.machine) (issued s l) (CountsOn l.machine 0 1)
    (λ e. record { records = omega arith; fetched = omega arith; interrupts = omega arith; replays = omega arith; mispredicted = omega arith; exceptions = omega arith; branches = omega arith })
    (λ e. same_counts l.machine (issued s l) 1 refl (issue_length s l [] l.machine.window))

try_counted : (s : Setup) (k : ℕ) (t : Try) (d : Demand) → TryCounts d.machine t → AreCounted k d → AreCounted (suc k) (demand_try s t d)
try_counted s k (misses behind) d on are = counted_on k 0 d (demand_try s (misses behind) d) (omega arith) on are
try_counted s k (appends behind) d on are = counted_on k 0 d (demand_try s (appends behind) d) (omega arith) on are
try_counted s k (turns behind) d on are = counted_on k 0 d (demand_try s (turns behind) d) (omega arith) on are

turn_counted : (s : Setup) (k : ℕ) (at : InorderAt) (d : Demand) (memory : Option ℕ) → AreCounted k d → AreCounted (suc k) (inorder_turn_at s at d memory).demand
unfolding inorder_commit
turn_counted s k interrupting d memory are = counted_on k 0 d (inorder_turn_at s interrupting d memory).demand (omega arith) (interrupt_counts d.machine) are
turn_counted s k writing d memory are =
    let c = commits s (write_width (inorder_in d memory)) 0 d.machine in
    counted_on k c.left d (inorder_turn_at s writing d memory).demand refl (one_step d.machine c.machine c.left (commits_counts s (write_width (inorder_in d memory)) d.machine)) are
turn_counted s k accessing d memory are = counted_on k 0 d d (omega arith) (same_counts d.machine d.machine 1 refl refl) are
turn_counted s k executing d memory are = counted_on k 0 d (inorder_turn_at s executing d memory).demand (omega arith) (execute_counts s d memory) are
turn_counted s k issuing d memory are = counted_on k 0 d (inorder_turn_at s issuing d memory).demand (omega arith) (issue_counts s (inorder_in d memory)) are
turn_counted s k trying d memory are = try_counted s k (fetch_try s d.machine) d (try_counts s d.machine) are
turn_counted s k ending d memory are = counted_on k 0 d (inorder_turn_at s ending d memory).demand (omega arith) (cycle_end_counts s d.machine) are
turn_counted s k stopping d memory are = counted_on k 0 d (inorder_turn_at s stopping d memory).demand (omega arith) (same_counts d.machine d.machine 1 refl refl) are
turn_counted s k halted d memory are = counted_on k 0 d d (omega arith) (same_counts d.machine d.machine 1 refl refl) are

step_counted : (s : Setup) (k owed : ℕ) (r : InorderRun) → AreCounted k r.demand → AreCounted (suc k) (inorder_step_by s owed r).run.demand
unfolding inorder_turn
step_counted s k zero r are = turn_counted s k r.at r.demand r.memory are
step_counted s k (suc owed) r are = counted_on k 0 r.demand r.demand (omega arith) (same_counts r.demand.machine r.demand.machine 1 refl refl) are

pub run_counted : (s : Setup) (k : ℕ) → AreCounted k (inorder_place s k).run.demand
unfolding inorder_place inorder_step machine_start
run_counted s zero =
    record { records = refl; fetched = omega arith; interrupts = omega arith; replays = omega arith; mispredicted = omega arith; exceptions = omega arith; branches = omega arith }
run_counted s (suc k) = step_counted s k (inorder_place s k).owed (inorder_place s k).run (run_counted s k)
