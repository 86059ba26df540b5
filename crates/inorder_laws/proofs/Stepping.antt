-- What each step of the in-order machine makes of the orders told, of the number of the record to fetch and of the count of
-- records fetched: what the steps of the monolithic machine make.
use Rattle.std.proofs.Common.{◌≡◌, ℕ, zero, suc, ◌+◌, if◌then◌else◌, Bool, false, Option, Some, None, List, [], ◌∷◌, length, refl, ap, sym, ◌∙◌, subst, arith}
use Rattle.std.proofs.lemmas.Bool.{cond_both, cond-false}
use Rattle.rollback_cmds.specs.declared.order.Order.TheVariants.{Time, Stop}
use Rattle.mono_model.specs.declared.setup.Setup.{Setup}
use Rattle.mono_model.specs.Final.{has_ended}
use Rattle.mono_model.specs.Window.{Record}
use Rattle.mono_model.specs.Machine.{Machine, flushed}
use Rattle.mono_model.specs.Commit.{commits}
use Rattle.mono_model.specs.Complete.{Completed}
use Rattle.mono_model.specs.Issue.{replayed}
use Rattle.mono_model.specs.Fetch.{Try, misses, appends, turns, fetch_try}
use Rattle.mono_model.specs.Cycle.{end_of_cycle}
use Rattle.mono_model.specs.Demand as run
use Rattle.mono_model.specs.Demand.{Demand, Run, run_at, next, demand_committed, demand_try, tried_turn}
use Rattle.mono_model.specs.Split.{is_halted}
use Rattle.machine_laws.proofs.Phases.{commits_from, by_window}
use Rattle.machine_laws.proofs.SplitTurns.{commits_all, still, interrupt_turned, commit_made, IsSame, completes_same, by_fetched, redirect_made, by_try, try_all, cycle_end_window, cycle_end_fetched, MadeBy, quiet, opens_at, stops_at, Turned}
use Rattle.machine_laws.proofs.SplitSteps.{Owes, Stepped, by_turn, by_owed}
use Rattle.inorder_machine.specs.InorderMachine.{InorderMachine, Executing, in_execute}
use Rattle.inorder_machine.specs.Write.{write_width, inorder_commit}
use Rattle.inorder_machine.specs.Execute.{Moved, unmoved, moved, may_move, moving_by, moving}
use Rattle.inorder_machine.specs.Issue.{inorder_wants_time, issued, issue_machine}
use Rattle.inorder_machine.specs.Fetch.{inorder_may_fetch}
use Rattle.inorder_machine.specs.Demand.{InorderAt, interrupting, writing, accessing, executing, issuing, trying, ending, stopping, halted, inorder_in, demand_moved, demand_inorder_issue, InorderRun, inorder_turn_at, inorder_turn, InorderPlace, inorder_step_by, inorder_step, seen_at, seen_of}
use Rattle.inorder_laws.proofs.Issuing.{issue_length}
use Rattle.inorder_laws.proofs.Leading.{moved_fewer}
use Rattle.inorder_laws.proofs.Making.{replay_empties}

abbrev pub seen_run : InorderRun → Run
seen_run r = run_at r.demand (seen_at r.at)

-- a turn that goes on in one of two ways
goes_on : (b : Bool) (x y : InorderAt) → is_halted (seen_at x) ≡ false → is_halted (seen_at y) ≡ false → is_halted (seen_at (if b then x else y)) ≡ false
goes_on b x y first second = cond_both b x y (λ at. is_halted (seen_at at) ≡ false) (λ e. first) (λ e. second)

write_turned : (s : Setup) (d : Demand) (most : ℕ) (at : InorderAt) → is_halted (seen_at at) ≡ false → Turned run.committing d (run_at (demand_committed (commits s most 0 d.machine) d) (seen_at at))
write_turned s d most at on =
    let c = commits s most 0 d.machine in
    let whole = commits_all s most d.machine in
    let from = commits_from s most d.machine in
    still run.committing d (run_at (demand_committed c d) (seen_at at)) whole.fetched
    (commit_made d.to_commit (d.to_commit + c.left) c.left c.machine.arch.pc (length d.machine.window) c.ending (is_halted (seen_at at)) c.machine.window d.orders refl from.ending (omega (arith, from.window)) whole.window on)

moved_same : (s : Setup) (l : InorderMachine) (x : Option Executing) → IsSame (moving_by s x l).completed.redirect (length (moving_by s x l).completed.records) (length l.machine.window)
unfolding IsSame
moved_same s l None = refl
moved_same s l (Some x) =
    cond_both (may_move l x) (moved s x l) (unmoved l) (λ k. IsSame k.completed.redirect (length k.completed.records) (length l.machine.window))
    (λ may. completes_same x.from l.machine.window) (λ may. refl)

execute_turned : (s : Setup) (d : Demand) (memory : Option ℕ) → Turned run.completing d (run_at (demand_moved (moving s (inorder_in d memory)) d) run.issuing)
unfolding moving
execute_turned s d memory =
    let x : Moved = moving_by s (in_execute d.machine.window) (inorder_in d memory) in
    let c : Completed = x.completed in
    let m : Machine = record d.machine { caches = x.caches } in
    still run.completing d (run_at (demand_moved x d) run.issuing) (by_fetched c.redirect c.records m)
    (subst (λ (w : List Record). MadeBy (next d) (d.to_commit + length w) false d.orders (demand_moved x d).orders) (sym (by_window c.redirect c.records m))
    (redirect_made c.redirect d.to_commit (length c.records) (length d.machine.window) d.orders (moved_same s (inorder_in d memory) (in_execute d.machine.window)) (moved_fewer s (inorder_in d memory) (in_execute d.machine.window))))

issue_fetched : (s : Setup) (l : InorderMachine) → (issue_machine s l).counts.fetched ≡ l.machine.counts.fetched
unfolding flushed
issue_fetched s l = cond_both (inorder_wants_time s l.machine) (replayed l.machine) (issued s l) (λ x. x.counts.fetched ≡ l.machine.counts.fetched) (λ e. refl) (λ e. refl)

issue_same : (s : Setup) (l : InorderMachine) → inorder_wants_time s l.machine ≡ false → length (issue_machine s l).window ≡ length l.machine.window
issue_same s l is =
    ap (λ (x : Machine). length x.window) (cond-false (inorder_wants_time s l.machine) (replayed l.machine) (issued s l) is) ∙ issue_length s l [] l.machine.window

issue_turned : (s : Setup) (d : Demand) (memory : Option ℕ) (at : InorderAt) → is_halted (seen_at at) ≡ false → Turned run.issuing d (run_at (demand_inorder_issue s memory d) (seen_at at))
issue_turned s d memory at on =
    let behind = demand_inorder_issue s memory d in
    let l : InorderMachine = inorder_in d memory in
    still run.issuing d (run_at behind (seen_at at)) (issue_fetched s l)
    (cond_both (inorder_wants_time s d.machine) (Time d.to_commit d.machine.cycle ∷ d.orders) d.orders (MadeBy (next d) (next behind) (is_halted (seen_at at)) d.orders)
    (λ is. opens_at (Time d.to_commit d.machine.cycle) refl (record { opens = refl; number = omega (arith, replay_empties s l is); runs = refl }) (omega (arith, replay_empties s l is)) on)
    (λ is. quiet refl (omega (arith, issue_same s l is)) on))

try_at_end : (s : Setup) (t : Try) (d : Demand) → tried_turn s t 0 d ≡ run_at (demand_try s t d) run.ending
try_at_end s (misses behind) d = refl
try_at_end s (appends behind) d = refl
try_at_end s (turns behind) d = refl

try_turned : (s : Setup) (d : Demand) → Turned (run.trying 0) d (run_at (demand_try s (fetch_try s d.machine) d) run.ending)
try_turned s d = subst (Turned (run.trying 0) d) (try_at_end s (fetch_try s d.machine) d) (by_try s (fetch_try s d.machine) 0 d (try_all s d.machine))

end_turned : (s : Setup) (d : Demand) (at : InorderAt) → is_halted (seen_at at) ≡ false → Turned run.ending d (run_at (record d { machine = end_of_cycle s d.machine }) (seen_at at))
end_turned s d at on =
    still run.ending d (run_at (record d { machine = end_of_cycle s d.machine }) (seen_at at)) (cycle_end_fetched s d.machine)
    (quiet refl (ap (λ (k : ℕ). d.to_commit + k) (cycle_end_window s d.machine)) on)

pub turn_turned : (s : Setup) (at : InorderAt) (d : Demand) (memory : Option ℕ) → is_halted (seen_at at) ≡ false → Turned (seen_at at) d (seen_run (inorder_turn_at s at d memory))
unfolding inorder_commit
turn_turned s interrupting d memory on = interrupt_turned s d
turn_turned s writing d memory on =
    let behind = demand_committed (commits s (write_width (inorder_in d memory)) 0 d.machine) d in
    write_turned s d (write_width (inorder_in d memory)) (if has_ended behind.machine.end then ending else accessing) (goes_on (has_ended behind.machine.end) ending accessing refl refl)
turn_turned s accessing d memory on = still run.completing d (run_at d run.completing) refl (quiet refl refl refl)
turn_turned s executing d memory on = execute_turned s d memory
turn_turned s issuing d memory on =
    let m : Machine = issue_machine s (inorder_in d memory) in
    issue_turned s d memory (if inorder_may_fetch m then trying else ending) (goes_on (inorder_may_fetch m) trying ending refl refl)
turn_turned s trying d memory on = try_turned s d
turn_turned s ending d memory on =
    let m : Machine = end_of_cycle s d.machine in
    end_turned s d (if has_ended m.end then stopping else interrupting) (goes_on (has_ended m.end) stopping interrupting refl refl)
turn_turned s stopping d memory on =
    still run.stopping d (run_at (record d { orders = Stop d.to_commit ∷ d.orders }) run.halted) refl (stops_at d.to_commit refl (omega arith) refl)
turn_turned s halted d memory on = cc

by_step : (s : Setup) (owed : ℕ) (r : InorderRun) → is_halted (seen_at r.at) ≡ false → Owes (record { run = seen_run r; owed = owed }) →
    Stepped (record { run = seen_run r; owed = owed }) (seen_of (inorder_step_by s owed r))
unfolding inorder_turn
by_step s zero r on owes = by_turn (seen_run r) (seen_run (inorder_turn_at s r.at r.demand r.memory)) (turn_turned s r.at r.demand r.memory on)
by_step s (suc owed) r on owes = by_owed (seen_run r) owed owes

-- what the law of the split state takes of a step
pub step_stepped : (s : Setup) (p : InorderPlace) → is_halted (seen_at p.run.at) ≡ false → Owes (seen_of p) → Stepped (seen_of p) (seen_of (inorder_step s p))
unfolding inorder_step
step_stepped s p on owes = by_step s p.owed p.run on owes
