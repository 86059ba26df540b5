-- What is reported where a run of the in-order machine has ended is what is reported behind all its cycles.
use Rattle.std.proofs.Common.{◌≡◌, ℕ, ◌≤◌, true, ap, sym, ◌∙◌, subst}
use Rattle.mono_model.specs.declared.setup.Setup.{Setup}
use Rattle.mono_model.specs.declared.final_state.Final.{Final}
use Rattle.mono_model.specs.Final.{has_ended}
use Rattle.mono_model.specs.Machine.{machine_final}
use Rattle.inorder_machine.specs.InorderMachine.{InorderMachine}
use Rattle.inorder_machine.specs.Cycle.{inorder, inorder_final}
use Rattle.inorder_machine.specs.Demand.{InorderPlace, inorder_in, inorder_place, inorder_step_bound}
use Rattle.inorder_laws.specs.Runs.{IsInorderPlace, InorderHalts, is_inorder_over, starts_cycle}
use Rattle.inorder_laws.proofs.Halting.{run_halts}
use Rattle.inorder_laws.proofs.Leading.{is_inorder}
use Rattle.sweep_runs.specs.Sweep.{inorder_last_of}

-- The run has ended after so many cycles, and stands still up to its limit.
pub record IsLast (s : Setup) (c : ℕ) : Type 0 where
  pub same : inorder s c ≡ inorder s s.cycles
  pub over : has_ended (inorder s s.cycles).machine.end ≡ true

pub last-place : (s : Setup) (p : InorderPlace) → 1 ≤ s.cycles → p ≡ inorder_place s (inorder_step_bound s) → inorder_in p.run.demand p.run.memory ≡ inorder s s.cycles →
    IsLast s p.run.demand.machine.cycle
last-place s p some_cycle last state =
    let halts : InorderHalts s = run_halts s some_cycle in
    let here : IsInorderPlace s p = subst (IsInorderPlace s) (sym last) (is_inorder s (inorder_step_bound s) (ap starts_cycle halts.at)) in
    let same : inorder s p.run.demand.machine.cycle ≡ inorder s s.cycles = sym here.state ∙ state in
    record {
      same = same;
      over = ap (λ (l : InorderMachine). has_ended l.machine.end) (sym same) ∙ here.over ∙ ap is_inorder_over (ap (λ (q : InorderPlace). q.run.at) last ∙ halts.at);
    }

pub inorder_last_of-ended : (s : Setup) (c : ℕ) (last : Final) → IsLast s c → last ≡ inorder_final s c → last ≡ inorder_last_of s
inorder_last_of-ended s c last ended reported = reported ∙ ap (λ (l : InorderMachine). machine_final s l.machine) ended.same
