-- How a demand run goes from the start of a cycle to that of the next.
use Rattle.std.specs.Prelude.{◌≡◌, ℕ, suc, ◌+◌, ◌<◌, ◌≤◌, ◌==◌, ◌&&◌, not, Bool, true, false}
use Rattle.mono_model.specs.Demand.{Place}
use Rattle.mono_model.specs.Split.{is_cycle_start, is_halted, is_place_boundary}
use Rattle.machine_laws.specs.DemandRun.{DemandRun}
use Rattle.machine_laws.specs.Runs.{is_over}
use Rattle.time_model.specs.Turns.{is_ending}

-- the next step ends a cycle
abbrev pub ends_place : Place → Bool
ends_place p = p.owed == 0 && is_ending p.run.at

-- the place is within a cycle
abbrev pub is_inside : Place → Bool
is_inside p = not (is_cycle_start p.run.at)

-- A step led into a cycle or stayed there.
pub record IsStepInside (p q : Place) : Type 0 where
  pub inside : is_inside q ≡ true
  pub cycle : q.run.demand.machine.cycle ≡ p.run.demand.machine.cycle

-- From the cycle of one place the other is the start of the next; the last order of the run is not told there.
pub record IsNextStart (p q : Place) : Type 0 where
  pub boundary : is_place_boundary q ≡ true
  pub cycle : q.run.demand.machine.cycle ≡ p.run.demand.machine.cycle + 1
  pub unstopped : is_halted q.run.at ≡ false

-- a cycle starts there, and the run goes on
pub record StartsCycle (p : Place) : Type 0 where
  pub boundary : is_place_boundary p ≡ true
  pub goes : is_over p.run.at ≡ false

-- The step that ends a cycle leads to the start of the next, each other one within a cycle stays there, and so does the
-- first.
pub record Cycles (r : DemandRun) : Type 0 where
  pub begins : (k : ℕ) → StartsCycle (r.places k) → IsStepInside (r.places k) (r.places (suc k))
  pub stays : (k : ℕ) → is_inside (r.places k) ≡ true → ends_place (r.places k) ≡ false → IsStepInside (r.places k) (r.places (suc k))
  pub ends : (k : ℕ) → ends_place (r.places k) ≡ true → IsNextStart (r.places k) (r.places (suc k))
