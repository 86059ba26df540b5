-- A run ends behind one number of cycles: the one that it reports.
use Rattle.std.proofs.Common.{◌≡◌, ℕ, zero, suc, ◌+◌, ◌≤◌, List, ◌++◌, true, false, refl, ap, sym, ◌∙◌}
use Rattle.std.proofs.lemmas.Bool.{cond_both, cond-false}
use Rattle.mono_model.specs.declared.setup.Setup.{Setup}
use Rattle.mono_model.specs.Final.{has_ended}
use Rattle.mono_model.specs.Machine.{Machine, machine_start, machine_final}
use Rattle.mono_model.specs.Fetch.{Try, misses, appends, turns, fetch_try, after_try}
use Rattle.mono_model.specs.Report.{closed_output, report_text}
use Rattle.machine_laws.proofs.FirstEnd.{runs_once}
use Rattle.machine_laws.proofs.Phases.{interrupt_cycle, commits_from, Tries, try_tries}
use Rattle.machine_laws.proofs.Reaching.{cycle_end_cycle}
use Rattle.inorder_machine.specs.InorderMachine.{InorderMachine, inorder_start}
use Rattle.inorder_machine.specs.Write.{inorder_interrupt, write_width, inorder_commit, inorder_write}
use Rattle.inorder_machine.specs.Memory.{inorder_memory}
use Rattle.inorder_machine.specs.Execute.{inorder_execute}
use Rattle.inorder_machine.specs.Issue.{inorder_issue}
use Rattle.inorder_machine.specs.Fetch.{inorder_may_fetch, fetch_machine, inorder_fetch}
use Rattle.inorder_machine.specs.Cycle.{after_write, inorder_phases, inorder_cycle_end, inorder_cycled, inorder, inorder_final, inorder_text}
use Rattle.inorder_machine.specs.Demand.{inorder_step_bound}
use Rattle.inorder_laws.specs.Runs.{starts_cycle, is_inorder_over}
use Rattle.inorder_laws.specs.FirstEnd.{InorderEndsOnce}
use Rattle.inorder_laws.proofs.Leading.{execute_cycle, issue_cycle, is_inorder}
use Rattle.inorder_laws.proofs.Halting.{ended_stays, run_halts}

-- the phases of a cycle leave its number
try_cycle : (t : Try) (m : Machine) → Tries m t → (after_try t (λ behind. behind)).cycle ≡ m.cycle
try_cycle (misses behind) m is = is.cycle
try_cycle (appends behind) m is = is.cycle
try_cycle (turns behind) m is = is.cycle

fetch_cycle : (s : Setup) (m : Machine) → (fetch_machine s m).cycle ≡ m.cycle
fetch_cycle s m =
    cond_both (inorder_may_fetch m) (after_try (fetch_try s m) (λ behind. behind)) m (λ x. x.cycle ≡ m.cycle)
    (λ may. try_cycle (fetch_try s m) m (try_tries s m)) (λ stays. refl)

behind_write_cycle : (s : Setup) (l : InorderMachine) → (after_write s l).machine.cycle ≡ l.machine.cycle
unfolding inorder_fetch inorder_issue inorder_memory
behind_write_cycle s l =
    let executed : InorderMachine = inorder_execute s (inorder_memory l) in
    let issued : InorderMachine = inorder_issue s executed in
    cond_both (has_ended l.machine.end) l (inorder_fetch s issued) (λ x. x.machine.cycle ≡ l.machine.cycle)
    (λ ended. refl) (λ on. fetch_cycle s issued.machine ∙ issue_cycle s executed ∙ execute_cycle s (inorder_memory l))

phases_cycle : (s : Setup) (l : InorderMachine) → (inorder_phases s l).machine.cycle ≡ l.machine.cycle
unfolding inorder_interrupt inorder_write inorder_commit
phases_cycle s l =
    let interrupted : InorderMachine = inorder_interrupt l in
    behind_write_cycle s (inorder_write s interrupted) ∙ (commits_from s (write_width interrupted) interrupted.machine).cycle ∙ interrupt_cycle l.machine

-- a machine that runs counts one cycle more
next_counts : (s : Setup) (c : ℕ) → has_ended (inorder s c).machine.end ≡ false
    → (inorder s (suc c)).machine.cycle ≡ (inorder s c).machine.cycle + 1
unfolding inorder inorder_cycled
next_counts s c on =
    let l : InorderMachine = inorder s c in
    ap (λ (x : InorderMachine). x.machine.cycle) (cond-false (has_ended l.machine.end) l (inorder_cycle_end s (inorder_phases s l)) on)
    ∙ cycle_end_cycle s (inorder_phases s l).machine ∙ ap (λ (n : ℕ). n + 1) (phases_cycle s l)

first_counts : (s : Setup) → (inorder s zero).machine.cycle ≡ 0
unfolding inorder inorder_start machine_start
first_counts s = refl

-- the machine at the limit has ended, and is the one behind as many cycles as it counts
record AtLimit (s : Setup) : Type 0 where
  ended : has_ended (inorder s s.cycles).machine.end ≡ true
  back : inorder s s.cycles ≡ inorder s (inorder s s.cycles).machine.cycle

at_limit : (s : Setup) → 1 ≤ s.cycles → AtLimit s
at_limit s some =
    let halts = run_halts s some in
    let is = is_inorder s (inorder_step_bound s) (ap starts_cycle halts.at) in
    record {
      ended = ap (λ (l : InorderMachine). has_ended l.machine.end) (sym halts.state ∙ is.state)
          ∙ is.over ∙ ap is_inorder_over halts.at;
      back = sym halts.state ∙ is.state ∙ ap (λ (l : InorderMachine). inorder s l.machine.cycle) halts.state;
    }

ends_once : (s : Setup) → 1 ≤ s.cycles → InorderEndsOnce s (inorder s s.cycles).machine.cycle
unfolding inorder_text
ends_once s some =
    let at = at_limit s some in
    let once = runs_once (inorder s) (λ l. l.machine) (first_counts s) (next_counts s) (ended_stays s) s.cycles at.ended at.back in
    let written_of : InorderMachine → List ℕ = λ l.
    closed_output l.machine.arch.output ++ report_text (machine_final s l.machine) in
    record {
      first = once.first;
      only = once.only;
      within = once.within;
      counted = once.counted;
      still = once.still;
      reported = ap (λ (l : InorderMachine). machine_final s l.machine) once.last;
      written = ap written_of once.last;
    }

pub inorder_run_ends_once : (s : Setup) → 1 ≤ s.cycles → InorderEndsOnce s (inorder_final s s.cycles).stats.cycles
unfolding machine_final
inorder_run_ends_once s some = ends_once s some
