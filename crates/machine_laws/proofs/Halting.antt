-- The demand run halts within its bound of steps.
use Rattle.std.proofs.Common.{◌≡◌, ℕ, zero, suc, ◌+◌, ◌-◌, ◌*◌, ◌≤◌, ◌==◌, if◌then◌else◌, Bool, true, false, ◌∷◌, length, refl, ap, sym, ◌∙◌, subst, arith}
use Rattle.std.proofs.lemmas.Bool.{cond_both, cond-true, cond-false, and_parts, eqb-true, eq-eqb}
use Rattle.rollback_cmds.specs.declared.order.Order.TheVariants.{Stop}
use Rattle.mono_model.specs.declared.setup.Setup.{Setup}
use Rattle.mono_model.specs.declared.final_state.End.TheVariants.{Limit}
use Rattle.mono_model.specs.Final.{has_ended}
use Rattle.mono_model.specs.Machine.{Machine}
use Rattle.mono_model.specs.Cycle.{phases, end_of_cycle, cycled, mono}
use Rattle.mono_model.specs.Demand.{Demand, At, interrupting, committing, completing, issuing, trying, ending, stopping, halted, run_at, turn, Place, step, place, step_bound}
use Rattle.mono_model.specs.Split.{is_cycle_start}
use Rattle.mono_model.proofs.Next.{mono-suc, place-suc}
use Rattle.machine_laws.specs.Runs.{is_over, Halts}
use Rattle.machine_laws.proofs.DemandRun.{is_mono}
use Rattle.machine_laws.proofs.Reaching.{CycleIsReached, by_parts, cycle_stands, ended_stays}

-- the limit ends the run
pub cycle_end_at_limit : (s : Setup) (m : Machine) → (end_of_cycle s m).cycle ≡ s.cycles → has_ended (end_of_cycle s m).end ≡ true
unfolding end_of_cycle
cycle_end_at_limit s m here =
    cond_both (has_ended m.end) m.end (if m.cycle + 1 == s.cycles then Limit else m.end) (λ e. has_ended e ≡ true) (λ e. e)
    (λ e. ap has_ended (cond-true (m.cycle + 1 == s.cycles) Limit m.end (eq-eqb (m.cycle + 1) s.cycles here)))

pub cycled_on : (s : Setup) (m : Machine) → has_ended m.end ≡ false → cycled s m ≡ end_of_cycle s (phases s m)
unfolding cycled
cycled_on s m on = cond-false (has_ended m.end) m (end_of_cycle s (phases s m)) on

mono_at_limit : (s : Setup) (c : ℕ) → (mono s (suc c)).cycle ≡ s.cycles → has_ended (mono s (suc c)).end ≡ true
mono_at_limit s c here = by_test (has_ended (mono s c).end) refl
  where
    by_test : (b : Bool) → has_ended (mono s c).end ≡ b → has_ended (mono s (suc c)).end ≡ true
    by_test true ended = ap (λ (m : Machine). has_ended m.end) (ended_stays s c ended) ∙ ended
    by_test false on =
        let e = cycled_on s (mono s c) on in
        let here' : (end_of_cycle s (phases s (mono s c))).cycle ≡ s.cycles = ap (λ (m : Machine). m.cycle) (sym (mono-suc s c ∙ e)) ∙ here in
        ap (λ (m : Machine). has_ended m.end) (mono-suc s c ∙ e) ∙ cycle_end_at_limit s (phases s (mono s c)) here'

over_at_limit : (s : Setup) (c : ℕ) → s.cycles ≡ suc c → (stands : CycleIsReached s (suc c)) → (b : Bool) → is_over (place s stands.steps).run.at ≡ b → b ≡ true
over_at_limit s c limit stands true is = refl
over_at_limit s c limit stands false is =
    let p = place s stands.steps in
    let parts = and_parts (p.owed == 0) (is_cycle_start p.run.at) stands.reaches.boundary in
    let m_at = is_mono s stands.steps parts.1 in
    let on : has_ended (mono s (suc c)).end ≡ false = ap (λ (m : Machine). has_ended m.end) (sym stands.reaches.machine ∙ m_at.machine) ∙ m_at.over ∙ is in
    let ended : has_ended (mono s (suc c)).end ≡ true = mono_at_limit s c (ap (λ (m : Machine). m.cycle) (sym stands.reaches.machine) ∙ stands.counts is ∙ sym limit) in
    sym on ∙ ended

-- Where it has halted it stands still.
record Still (s : Setup) (k : ℕ) (m : Machine) : Type 0 where
  demand : Demand
  stands : place s k ≡ record { run = run_at demand halted; owed = 0 }
  machine : demand.machine ≡ m

abbrev place_with : Demand → ℕ → Place
place_with d owed = record { run = run_at d halted; owed = owed }

owed_nothing : (d : Demand) (owed : ℕ) → owed ≡ 0 → place_with d owed ≡ place_with d 0
owed_nothing d owed e = ap (place_with d) e

step_halted : (s : Setup) (d : Demand) → step s (place_with d 0) ≡ place_with d 0
unfolding step turn
step_halted s d = owed_nothing d (length d.orders - length d.orders - 1) (omega arith)

still_on : (s : Setup) (m : Machine) (j k : ℕ) (still : Still s k m) → place s (j + k) ≡ place s k
still_on s m zero k still = ap (place s) (omega arith)
still_on s m (suc j) k still =
    let e : suc j + k ≡ suc (j + k) = omega arith in
    ap (place s) e ∙ place-suc s (j + k) ∙ ap (λ (p : Place). step s p) (still_on s m j k still ∙ still.stands) ∙ step_halted s still.demand ∙ sym still.stands

-- the last order is told in one step
stop_still : (s : Setup) (k : ℕ) (d : Demand) (m : Machine) → place s k ≡ record { run = run_at d stopping; owed = 0 } → d.machine ≡ m → Still s (suc k) m
unfolding step turn
stop_still s k d m there is =
    let behind : Demand = record d { orders = Stop d.to_commit ∷ d.orders } in
    record {
      demand = behind;
      stands = place-suc s k ∙ ap (λ (p : Place). step s p) there ∙ owed_nothing behind (length behind.orders - length d.orders - 1) (omega arith);
      machine = is;
    }

by_at : (s : Setup) (k : ℕ) (at : At) (m : Machine) → (place s k).run.at ≡ at → (place s k).owed ≡ 0 → is_over at ≡ true → (place s k).run.demand.machine ≡ m → Still s (suc k) m
by_at s k interrupting m here told over is = cc
by_at s k committing m here told over is = cc
by_at s k completing m here told over is = cc
by_at s k issuing m here told over is = cc
by_at s k (trying more) m here told over is = cc
by_at s k ending m here told over is = cc
by_at s k stopping m here told over is = stop_still s k (place s k).run.demand m (by_parts (place s k) stopping here told) is
by_at s k halted m here told over is =
    record {
      demand = (place s k).run.demand;
      stands = place-suc s k ∙ ap (λ (p : Place). step s p) (by_parts (place s k) halted here told) ∙ step_halted s (place s k).run.demand;
      machine = is;
    }

from_still : (s : Setup) (k : ℕ) → suc k ≤ step_bound s → Still s (suc k) (mono s s.cycles) → Halts s
from_still s k within still =
    let on : (n : ℕ) → suc k ≤ n → place s n ≡ place s (suc k) = λ n later.
    let e : n ≡ (n - suc k) + suc k = omega arith in ap (place s) e ∙ still_on s (mono s s.cycles) (n - suc k) (suc k) still in
    let here : place s (step_bound s) ≡ record { run = run_at still.demand halted; owed = 0 } = on (step_bound s) within ∙ still.stands in
    record {
      at = ap (λ (p : Place). p.run.at) here;
      told = ap (λ (p : Place). p.owed) here;
      machine = ap (λ (p : Place). p.run.demand.machine) here ∙ still.machine;
      still = λ n later. on n (omega arith) ∙ sym (on (step_bound s) within);
    }

by_cycles : (s : Setup) (c : ℕ) → s.cycles ≡ suc c → (stands : CycleIsReached s (suc c)) → Halts s
by_cycles s c limit stands =
    let p = place s stands.steps in
    let parts = and_parts (p.owed == 0) (is_cycle_start p.run.at) stands.reaches.boundary in
    let over : is_over p.run.at ≡ true = over_at_limit s c limit stands (is_over p.run.at) refl in
    let within : suc stands.steps ≤ step_bound s = subst (λ (n : ℕ). suc stands.steps ≤ n * (s.params.core_fetch + 6) + 2) (sym limit) (omega (arith, stands.reaches.within)) in
    from_still s stands.steps within
    (by_at s stands.steps p.run.at (mono s s.cycles) refl (eqb-true p.owed 0 parts.0) over (stands.reaches.machine ∙ ap (mono s) (sym limit)))

pub run_halts : (s : Setup) → 1 ≤ s.cycles → Halts s
run_halts s limited = let e : s.cycles ≡ suc (s.cycles - 1) = omega arith in by_cycles s (s.cycles - 1) e (cycle_stands s (suc (s.cycles - 1)))
