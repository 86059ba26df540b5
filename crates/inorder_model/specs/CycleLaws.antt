-- The in-order machine's demand run goes from cycle to cycle.
use Rattle.std.proofs.Common.{◌≡◌, ℕ, zero, suc, ◌+◌, ◌-◌, ◌==◌, ◌&&◌, not, if◌then◌else◌, Bool, true, false, Option, Some, None, List, length, refl, ap, ◌∙◌, subst, sym}
use Rattle.std.proofs.lemmas.Bool.{and_from, cond_both}
use Rattle.mono_model.specs.declared.setup.Setup.{Setup}
use Rattle.mono_model.specs.Window.{Record}
use Rattle.mono_model.specs.Machine.{Machine, flushed}
use Rattle.mono_model.specs.Final.{has_ended}
use Rattle.mono_model.specs.Complete.{completed_by}
use Rattle.mono_model.specs.Fetch.{Try, misses, appends, turns, fetch_try}
use Rattle.mono_model.specs.Cycle.{end_of_cycle}
use Rattle.mono_model.specs.Demand.{Demand, demand_interrupt, demand_committed, demand_try}
use Rattle.mono_model.specs.Split.{is_cycle_start, is_halted, is_place_boundary}
use Rattle.machine_laws.specs.Runs.{is_over}
use Rattle.machine_laws.proofs.Phases.{interrupt_cycle, commits_from, Tries, try_tries}
use Rattle.machine_laws.proofs.Reaching.{cycle_end_cycle}
use Rattle.inorder_machine.specs.InorderMachine.{memory_behind}
use Rattle.inorder_machine.specs.Write.{inorder_commit, write_width}
use Rattle.inorder_machine.specs.Execute.{moving}
use Rattle.inorder_machine.specs.Fetch.{inorder_may_fetch}
use Rattle.inorder_machine.specs.Demand.{InorderAt, interrupting, writing, accessing, executing, issuing, trying, ending, stopping, halted, InorderPlace, inorder_in, inorder_place, inorder_run_at, inorder_step, inorder_step_by, inorder_turn, inorder_turn_at, at_after_write, at_after_issue, at_after_end, demand_inorder_issue, seen_at, seen_of}
use Rattle.inorder_laws.specs.SplitLaw.{inorder_demand_run}
use Rattle.inorder_laws.proofs.Leading.{issue_cycle}
use Rattle.inorder_laws.proofs.Owing.{inorder_place_suc}
use Rattle.time_model.specs.Turns.{is_ending}
use Rattle.split_core.specs.Cycles.{Cycles, IsStepInside, IsNextStart}
use Rattle.split_core.specs.CycleLaws.{owes_else, none_owed}

-- a place as the split state sees it
abbrev at_place : InorderAt → Demand → Option ℕ → ℕ → InorderPlace
at_place at d memory owed = record { run = inorder_run_at d memory at; owed = owed }

write_inside : (d : Demand) → not (is_cycle_start (seen_at (at_after_write d))) ≡ true
write_inside d = cond_both (has_ended d.machine.end) ending accessing (λ (at : InorderAt). not (is_cycle_start (seen_at at)) ≡ true) (λ ended. refl) (λ on. refl)

issue_inside : (d : Demand) → not (is_cycle_start (seen_at (at_after_issue d))) ≡ true
issue_inside d = cond_both (inorder_may_fetch d.machine) trying ending (λ (at : InorderAt). not (is_cycle_start (seen_at at)) ≡ true) (λ may. refl) (λ off. refl)

completed_cycle : (redirect : Option ℕ) (records : List Record) (m : Machine) → (completed_by redirect records m).cycle ≡ m.cycle
unfolding flushed
completed_cycle None records m = refl
completed_cycle (Some addr) records m = refl

tried_cycle : (s : Setup) (t : Try) (d : Demand) → Tries d.machine t → (demand_try s t d).machine.cycle ≡ d.machine.cycle
tried_cycle s (misses behind) d is = is.cycle
tried_cycle s (appends behind) d is = is.cycle
tried_cycle s (turns behind) d is = is.cycle

abbrev Inside : Setup → InorderAt → Demand → Option ℕ → ℕ → InorderPlace → Type 0
Inside s at d memory owed next = IsStepInside (seen_of (at_place at d memory owed)) (seen_of next)

-- a turn that ends no cycle, after its start
turn_inside : (s : Setup) (at : InorderAt) (d : Demand) (memory : Option ℕ) (owed k : ℕ) → not (is_cycle_start (seen_at at)) ≡ true → is_ending (seen_at at) ≡ false →
    Inside s at d memory owed (record { run = inorder_turn_at s at d memory; owed = k })
unfolding inorder_commit
turn_inside s interrupting d memory owed k inside inner = cc
turn_inside s writing d memory owed k inside inner =
    record { inside = write_inside (demand_committed (inorder_commit s (inorder_in d memory)) d); cycle = (commits_from s (write_width (inorder_in d memory)) d.machine).cycle }
turn_inside s accessing d memory owed k inside inner = record { inside = refl; cycle = refl }
turn_inside s executing d memory owed k inside inner =
    let x = moving s (inorder_in d memory) in
    record { inside = refl; cycle = completed_cycle x.completed.redirect x.completed.records (record d.machine { caches = x.caches }) }
turn_inside s issuing d memory owed k inside inner = record { inside = issue_inside (demand_inorder_issue s memory d); cycle = issue_cycle s (inorder_in d memory) }
turn_inside s trying d memory owed k inside inner = record { inside = refl; cycle = tried_cycle s (fetch_try s d.machine) d (try_tries s d.machine) }
turn_inside s ending d memory owed k inside inner = cc
turn_inside s stopping d memory owed k inside inner = cc
turn_inside s halted d memory owed k inside inner = cc

step_inside : (s : Setup) (at : InorderAt) (d : Demand) (memory : Option ℕ) (owed : ℕ) → not (is_cycle_start (seen_at at)) ≡ true → (owed == 0 && is_ending (seen_at at)) ≡ false →
    Inside s at d memory owed (inorder_step_by s owed (inorder_run_at d memory at))
unfolding inorder_turn
step_inside s at d memory zero inside inner = turn_inside s at d memory 0 (length (inorder_turn_at s at d memory).demand.orders - length d.orders - 1) inside inner
step_inside s at d memory (suc owed) inside inner = record { inside = inside; cycle = refl }

-- the end of a cycle
starts_next : (b : Bool) → is_cycle_start (seen_at (if b then stopping else interrupting)) ≡ true
starts_next true = refl
starts_next false = refl

next_unstopped : (b : Bool) → is_halted (seen_at (if b then stopping else interrupting)) ≡ false
next_unstopped true = refl
next_unstopped false = refl

step_out : (s : Setup) (at : InorderAt) (d : Demand) (memory : Option ℕ) (owed : ℕ) → (owed == 0 && is_ending (seen_at at)) ≡ true →
    IsNextStart (seen_of (at_place at d memory owed)) (seen_of (inorder_step_by s owed (inorder_run_at d memory at)))
unfolding inorder_turn
step_out s at d memory (suc owed) is = absurd (owes_else owed (is_ending (seen_at at)) is)
step_out s interrupting d memory zero is = cc
step_out s writing d memory zero is = cc
step_out s accessing d memory zero is = cc
step_out s executing d memory zero is = cc
step_out s issuing d memory zero is = cc
step_out s trying d memory zero is = cc
step_out s ending d memory zero is = record {
  boundary = and_from (length d.orders - length d.orders - 1 == 0) (is_cycle_start (seen_at (at_after_end (record d { machine = end_of_cycle s d.machine })))) (none_owed (length d.orders))
      (starts_next (has_ended (end_of_cycle s d.machine).end));
  cycle = cycle_end_cycle s d.machine;
  unstopped = next_unstopped (has_ended (end_of_cycle s d.machine).end);
}
step_out s stopping d memory zero is = cc
step_out s halted d memory zero is = cc

-- the start of one
step_begins : (s : Setup) (at : InorderAt) (d : Demand) (memory : Option ℕ) (owed : ℕ) → (owed == 0 && is_cycle_start (seen_at at)) ≡ true → is_over (seen_at at) ≡ false →
    Inside s at d memory owed (inorder_step_by s owed (inorder_run_at d memory at))
unfolding inorder_turn
step_begins s at d memory (suc owed) starts goes = absurd (owes_else owed (is_cycle_start (seen_at at)) starts)
step_begins s interrupting d memory zero starts goes = record { inside = refl; cycle = interrupt_cycle d.machine }
step_begins s writing d memory zero starts goes = cc
step_begins s accessing d memory zero starts goes = cc
step_begins s executing d memory zero starts goes = cc
step_begins s issuing d memory zero starts goes = cc
step_begins s trying d memory zero starts goes = cc
step_begins s ending d memory zero starts goes = cc
step_begins s stopping d memory zero starts goes = cc
step_begins s halted d memory zero starts goes = cc

pub inorder_cycles : (s : Setup) → Cycles (inorder_demand_run s)
unfolding inorder_step
inorder_cycles s = record {
  begins = λ k here.
      let p = inorder_place s k in
      let P : InorderPlace → Type 0 = λ q. IsStepInside (seen_of p) (seen_of q) in
      subst P (sym (inorder_place_suc s k)) (step_begins s p.run.at p.run.demand p.run.memory p.owed here.boundary here.goes);
  stays = λ k inside inner.
      let p = inorder_place s k in
      let P : InorderPlace → Type 0 = λ q. IsStepInside (seen_of p) (seen_of q) in
      subst P (sym (inorder_place_suc s k)) (step_inside s p.run.at p.run.demand p.run.memory p.owed inside inner);
  ends = λ k is.
      let p = inorder_place s k in
      let P : InorderPlace → Type 0 = λ q. IsNextStart (seen_of p) (seen_of q) in
      subst P (sym (inorder_place_suc s k)) (step_out s p.run.at p.run.demand p.run.memory p.owed is);
}
