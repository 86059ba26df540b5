-- The monolithic machine's demand run goes from cycle to cycle.
use Rattle.std.proofs.Common.{◌≡◌, ℕ, zero, suc, ◌+◌, ◌-◌, ◌==◌, ◌&&◌, not, if◌then◌else◌, Bool, true, false, length, refl, ap, ◌∙◌, subst, sym, arith}
use Rattle.std.proofs.lemmas.Bool.{and_from, and_parts, cond_both, eq-eqb, eqb-true}
use Rattle.mono_model.specs.declared.setup.Setup.{Setup}
use Rattle.mono_model.specs.Final.{has_ended}
use Rattle.mono_model.specs.Fetch.{Try, misses, appends, turns, fetch_try, may_fetch}
use Rattle.mono_model.specs.Cycle.{end_of_cycle}
use Rattle.mono_model.specs.Demand.{At, interrupting, committing, completing, issuing, trying, ending, stopping, halted, Demand, Place, place, run_at, step, step_by, turn, turn_at, tried_turn, try_or_end, at_after_commit, at_after_cycle, demand_commit, demand_complete, demand_issue, demand_try}
use Rattle.mono_model.specs.Split.{is_cycle_start, is_halted, is_place_boundary}
use Rattle.mono_model.proofs.Next.{place-suc}
use Rattle.machine_laws.specs.DemandRun.{mono_run}
use Rattle.machine_laws.specs.Runs.{is_over}
use Rattle.machine_laws.proofs.Phases.{interrupt_cycle, commit_from, complete_kept, issue_kept, Tries, try_tries}
use Rattle.machine_laws.proofs.Reaching.{cycle_end_cycle}
use Rattle.time_model.specs.Turns.{is_ending}
use Rattle.split_core.specs.Cycles.{Cycles, IsStepInside, IsNextStart, StartsCycle, ends_place, is_inside}

-- a try or the end of the cycle is within it
tries_inside : (s : Setup) (more : ℕ) (d : Demand) → not (is_cycle_start (try_or_end s more d)) ≡ true
tries_inside s zero d = refl
tries_inside s (suc more) d = cond_both (may_fetch s d.machine) (trying more) ending (λ (at : At). not (is_cycle_start at) ≡ true) (λ may. refl) (λ off. refl)

commit_inside : (d : Demand) → not (is_cycle_start (at_after_commit d)) ≡ true
commit_inside d = cond_both (has_ended d.machine.end) ending completing (λ (at : At). not (is_cycle_start at) ≡ true) (λ ended. refl) (λ on. refl)

tried_inside : (s : Setup) (t : Try) (more : ℕ) (d : Demand) (owed k : ℕ) → Tries d.machine t →
    IsStepInside (record { run = run_at d (trying more); owed = owed }) (record { run = tried_turn s t more d; owed = k })
tried_inside s (misses behind) more d owed k is = record { inside = refl; cycle = is.cycle }
tried_inside s (appends behind) more d owed k is = record { inside = tries_inside s more (demand_try s (appends behind) d); cycle = is.cycle }
tried_inside s (turns behind) more d owed k is = record { inside = refl; cycle = is.cycle }

-- a turn that ends no cycle, after its start
turn_inside : (s : Setup) (at : At) (d : Demand) (owed k : ℕ) → not (is_cycle_start at) ≡ true → is_ending at ≡ false → IsStepInside (record { run = run_at d at; owed = owed }) (record { run = turn_at s at d; owed = k })
turn_inside s interrupting d owed k inside inner = cc
turn_inside s committing d owed k inside inner = record { inside = commit_inside (demand_commit s d); cycle = (commit_from s d.machine).cycle }
turn_inside s completing d owed k inside inner = record { inside = refl; cycle = (complete_kept d.machine).cycle }
turn_inside s issuing d owed k inside inner = record { inside = tries_inside s s.params.core_fetch (demand_issue s d); cycle = (issue_kept s d.machine).cycle }
turn_inside s (trying more) d owed k inside inner = tried_inside s (fetch_try s d.machine) more d owed k (try_tries s d.machine)
turn_inside s ending d owed k inside inner = cc
turn_inside s stopping d owed k inside inner = cc
turn_inside s halted d owed k inside inner = cc

step_inside : (s : Setup) (at : At) (d : Demand) (owed : ℕ) → not (is_cycle_start at) ≡ true → (owed == 0 && is_ending at) ≡ false → IsStepInside (record { run = run_at d at; owed = owed }) (step_by s owed (run_at d at))
unfolding turn
step_inside s at d zero inside inner = turn_inside s at d 0 (length (turn_at s at d).demand.orders - length d.orders - 1) inside inner
step_inside s at d (suc owed) inside inner = record { inside = inside; cycle = refl }

-- where an order is owed nothing else comes next
pub owes_else : (n : ℕ) (b : Bool) → (suc n == 0 && b) ≡ true → ⊥
owes_else n b is = let e : suc n ≡ 0 = eqb-true (suc n) 0 (and_parts (suc n == 0) b is).0 in omega (arith, e)

-- the end of a cycle
pub none_owed : (n : ℕ) → (n - n - 1 == 0) ≡ true
none_owed n = eq-eqb (n - n - 1) 0 (omega arith)

starts_next : (b : Bool) → is_cycle_start (if b then stopping else interrupting) ≡ true
starts_next true = refl
starts_next false = refl

next_unstopped : (b : Bool) → is_halted (if b then stopping else interrupting) ≡ false
next_unstopped true = refl
next_unstopped false = refl

step_out : (s : Setup) (at : At) (d : Demand) (owed : ℕ) → (owed == 0 && is_ending at) ≡ true → IsNextStart (record { run = run_at d at; owed = owed }) (step_by s owed (run_at d at))
unfolding turn
step_out s at d (suc owed) is = absurd (owes_else owed (is_ending at) is)
step_out s interrupting d zero is = cc
step_out s committing d zero is = cc
step_out s completing d zero is = cc
step_out s issuing d zero is = cc
step_out s (trying more) d zero is = cc
step_out s ending d zero is = record {
  boundary = and_from (length d.orders - length d.orders - 1 == 0) (is_cycle_start (at_after_cycle (record d { machine = end_of_cycle s d.machine }))) (none_owed (length d.orders))
      (starts_next (has_ended (end_of_cycle s d.machine).end));
  cycle = cycle_end_cycle s d.machine;
  unstopped = next_unstopped (has_ended (end_of_cycle s d.machine).end);
}
step_out s stopping d zero is = cc
step_out s halted d zero is = cc

-- the start of one
step_begins : (s : Setup) (at : At) (d : Demand) (owed : ℕ) → (owed == 0 && is_cycle_start at) ≡ true → is_over at ≡ false → IsStepInside (record { run = run_at d at; owed = owed }) (step_by s owed (run_at d at))
unfolding turn
step_begins s at d (suc owed) starts goes = absurd (owes_else owed (is_cycle_start at) starts)
step_begins s interrupting d zero starts goes = record { inside = refl; cycle = interrupt_cycle d.machine }
step_begins s committing d zero starts goes = cc
step_begins s completing d zero starts goes = cc
step_begins s issuing d zero starts goes = cc
step_begins s (trying more) d zero starts goes = cc
step_begins s ending d zero starts goes = cc
step_begins s stopping d zero starts goes = cc
step_begins s halted d zero starts goes = cc

pub mono_cycles : (s : Setup) → Cycles (mono_run s)
unfolding step
mono_cycles s = record {
  begins = λ k here. let p = place s k in subst (IsStepInside p) (sym (place-suc s k)) (step_begins s p.run.at p.run.demand p.owed here.boundary here.goes);
  stays = λ k inside inner. let p = place s k in subst (IsStepInside p) (sym (place-suc s k)) (step_inside s p.run.at p.run.demand p.owed inside inner);
  ends = λ k is. let p = place s k in subst (IsNextStart p) (sym (place-suc s k)) (step_out s p.run.at p.run.demand p.owed is);
}
