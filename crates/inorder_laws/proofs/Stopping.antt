-- Stop is told exactly where the run has halted, and that is where it ends.
use Rattle.std.proofs.Common.{◌≡◌, ℕ, zero, suc, ◌+◌, ◌≤◌, true, refl, ap, sym, ◌∙◌, arith}
use Rattle.mono_model.specs.declared.setup.Setup.{Setup}
use Rattle.mono_model.specs.Path.{has_stop}
use Rattle.mono_model.specs.Demand.{told}
use Rattle.mono_model.specs.Split.{is_halted}
use Rattle.machine_laws.proofs.Stopping.{step_stops}
use Rattle.inorder_machine.specs.Cycle.{inorder}
use Rattle.inorder_machine.specs.Demand.{InorderPlace, inorder_in, inorder_place, inorder_step_bound, seen_of, seen}
use Rattle.inorder_laws.proofs.Halting.{run_halts}
use Rattle.inorder_laws.proofs.Owing.{place_stepped, halted_stays, still_places}

pub inorder_stop_told : (s : Setup) (k : ℕ) → has_stop (told (seen s k)) ≡ is_halted (seen s k).run.at
unfolding inorder_place
inorder_stop_told s zero = refl
inorder_stop_told s (suc k) =
    step_stops (seen s k) (seen s (suc k)) (λ over. ap (λ (p : InorderPlace). seen_of p) (halted_stays s k over)) (place_stepped s k) (inorder_stop_told s k)

pub inorder_halted_last : (s : Setup) (k : ℕ) → 1 ≤ s.cycles → is_halted (seen s k).run.at ≡ true → inorder_place s k ≡ inorder_place s (inorder_step_bound s)
inorder_halted_last s k limited over = sym (still_places s k (inorder_step_bound s) over) ∙ (run_halts s limited).still (inorder_step_bound s + k) (omega arith)

pub inorder_halted_state : (s : Setup) (k : ℕ) → 1 ≤ s.cycles → is_halted (seen s k).run.at ≡ true → inorder_in (inorder_place s k).run.demand (inorder_place s k).run.memory ≡ inorder s s.cycles
inorder_halted_state s k limited over = ap (λ (p : InorderPlace). inorder_in p.run.demand p.run.memory) (inorder_halted_last s k limited over) ∙ (run_halts s limited).state
