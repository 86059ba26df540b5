-- Stop is told exactly where the run has halted.
use Rattle.std.proofs.Common.{◌≡◌, ℕ, zero, suc, ◌≤◌, ◌||◌, Bool, true, false, refl, ap, sym, ◌∙◌, subst}
use Rattle.mono_model.specs.declared.setup.Setup.{Setup}
use Rattle.mono_model.specs.Cycle.{mono}
use Rattle.mono_model.specs.Path.{has_stop}
use Rattle.mono_model.specs.Demand.{Place, place, told, step_bound}
use Rattle.mono_model.specs.Split.{is_halted}
use Rattle.machine_laws.proofs.Laws.{last_place}
use Rattle.machine_laws.proofs.Halting.{run_halts}
use Rattle.machine_laws.proofs.MonoRun.{mono_laws}
use Rattle.machine_laws.proofs.SplitSteps.{Steps, tells_none, tells_commit, tells_opening, tells_stop, Stepped}

abbrev StopsAtEnd : Place → Type 0
StopsAtEnd p = has_stop (told p) ≡ is_halted p.run.at

by_steps : (n : ℕ) (p q : Place) → has_stop (told p) ≡ false → Steps n p q → StopsAtEnd q
by_steps n p q none (tells_none all same to none_owed off) = ap has_stop same ∙ none ∙ sym off
by_steps n p q none (tells_commit m all same least most to off) = ap has_stop same ∙ none ∙ sym off
by_steps n p q none (tells_opening o same opening most all off) =
    ap has_stop same ∙ ap (λ (b : Bool). b || has_stop (told p)) opening.runs ∙ none ∙ sym off
by_steps n p q none (tells_stop m same most all over) = ap has_stop same ∙ sym over

pub step_stops : (p q : Place) → (is_halted p.run.at ≡ true → q ≡ p) → (is_halted p.run.at ≡ false → Stepped p q) → StopsAtEnd p → StopsAtEnd q
step_stops p q stays goes is = by_test (is_halted p.run.at) refl
  where
    by_test : (b : Bool) → is_halted p.run.at ≡ b → StopsAtEnd q
    by_test true over = subst StopsAtEnd (sym (stays over)) is
    by_test false on = by_steps _ p q (is ∙ on) (goes on).made

pub stop_told : (s : Setup) (k : ℕ) → has_stop (told (place s k)) ≡ is_halted (place s k).run.at
unfolding place
stop_told s zero = refl
stop_told s (suc k) = let laws = mono_laws s in step_stops (place s k) (place s (suc k)) (laws.stays k) (laws.stepped k) (stop_told s k)

pub halted_last : (s : Setup) (k : ℕ) → 1 ≤ s.cycles → is_halted (place s k).run.at ≡ true → place s k ≡ place s (step_bound s)
halted_last s k limited over = last_place (mono_laws s) limited k over

pub stopped_last : (s : Setup) (k : ℕ) → 1 ≤ s.cycles → has_stop (told (place s k)) ≡ true → place s k ≡ place s (step_bound s)
stopped_last s k limited stopped = halted_last s k limited (sym (stop_told s k) ∙ stopped)

pub halted_machine : (s : Setup) (k : ℕ) → 1 ≤ s.cycles → is_halted (place s k).run.at ≡ true → (place s k).run.demand.machine ≡ mono s s.cycles
halted_machine s k limited over = ap (λ (p : Place). p.run.demand.machine) (halted_last s k limited over) ∙ (run_halts s limited).machine

-- the run has halted within its bound of steps
pub stopped_at_bound : (s : Setup) → 1 ≤ s.cycles → has_stop (told (place s (step_bound s))) ≡ true
stopped_at_bound s limited = stop_told s (step_bound s) ∙ ap is_halted (run_halts s limited).at
