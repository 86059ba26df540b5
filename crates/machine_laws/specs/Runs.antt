-- The demand run beside the monolithic run.
use Rattle.std.specs.Prelude.{◌≡◌, ℕ, ◌+◌, ◌*◌, ◌≤◌, Bool, true, false}
use Rattle.mono_model.specs.declared.setup.Setup.{Setup}
use Rattle.mono_model.specs.Final.{has_ended}
use Rattle.mono_model.specs.Machine.{Machine}
use Rattle.mono_model.specs.Cycle.{mono}
use Rattle.mono_model.specs.Demand.{At, interrupting, committing, completing, issuing, trying, ending, stopping, halted, Place, place, step_bound}
use Rattle.mono_model.specs.Split.{is_place_boundary}

-- whether the run has ended, at a turn with which a cycle starts
abbrev pub is_over : At → Bool
is_over interrupting = false
is_over committing = false
is_over completing = false
is_over issuing = false
is_over (trying more) = false
is_over ending = false
is_over stopping = true
is_over halted = true

-- Where a cycle starts and at the end, the machine is that of a run by cycles, behind as many cycles as it counts.
pub record IsByCycles (machines : ℕ → Machine) (p : Place) : Type 0 where
  pub machine : p.run.demand.machine ≡ machines p.run.demand.machine.cycle
  pub over : has_ended (machines p.run.demand.machine.cycle).end ≡ is_over p.run.at

-- the monolithic one
abbrev pub IsMono : Setup → Place → Type 0
IsMono s p = IsByCycles (mono s) p

-- After so many steps the demand run stands where the monolithic one stands after so many cycles.
pub record Reaches (s : Setup) (c steps : ℕ) : Type 0 where
  pub boundary : is_place_boundary (place s steps) ≡ true
  pub machine : (place s steps).run.demand.machine ≡ mono s c
  pub within : steps ≤ c * (s.params.core_fetch + 6)

-- Within its bound of steps the run has told its last order, and it stands still from there on.
pub record Halts (s : Setup) : Type 0 where
  pub at : (place s (step_bound s)).run.at ≡ halted
  pub told : (place s (step_bound s)).owed ≡ 0
  pub machine : (place s (step_bound s)).run.demand.machine ≡ mono s s.cycles
  pub still : (k : ℕ) → step_bound s ≤ k → place s k ≡ place s (step_bound s)
