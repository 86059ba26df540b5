-- The demand run of the in-order machine beside its run by cycles.
use Rattle.std.specs.Prelude.{◌≡◌, ℕ, ◌≤◌, Bool, true, false}
use Rattle.mono_model.specs.declared.setup.Setup.{Setup}
use Rattle.mono_model.specs.Final.{has_ended}
use Rattle.inorder_machine.specs.Cycle.{inorder}
use Rattle.inorder_machine.specs.Demand.{InorderAt, interrupting, writing, accessing, executing, issuing, trying, ending, stopping, halted, InorderPlace, inorder_in, inorder_place, inorder_step_bound}

-- a cycle starts with this turn, or the run has ended
abbrev pub starts_cycle : InorderAt → Bool
starts_cycle interrupting = true
starts_cycle writing = false
starts_cycle accessing = false
starts_cycle executing = false
starts_cycle issuing = false
starts_cycle trying = false
starts_cycle ending = false
starts_cycle stopping = true
starts_cycle halted = true

-- whether the run has ended, at a turn with which a cycle starts
abbrev pub is_inorder_over : InorderAt → Bool
is_inorder_over interrupting = false
is_inorder_over writing = false
is_inorder_over accessing = false
is_inorder_over executing = false
is_inorder_over issuing = false
is_inorder_over trying = false
is_inorder_over ending = false
is_inorder_over stopping = true
is_inorder_over halted = true

-- Where a cycle starts and at the end, the state is that of the in-order machine behind as many cycles as it counts.
pub record IsInorderPlace (s : Setup) (p : InorderPlace) : Type 0 where
  pub state : inorder_in p.run.demand p.run.memory ≡ inorder s p.run.demand.machine.cycle
  pub over : has_ended (inorder s p.run.demand.machine.cycle).machine.end ≡ is_inorder_over p.run.at

-- Within its bound of steps the run has told its last order, and it stands still from there on.
pub record InorderHalts (s : Setup) : Type 0 where
  pub at : (inorder_place s (inorder_step_bound s)).run.at ≡ halted
  pub told : (inorder_place s (inorder_step_bound s)).owed ≡ 0
  pub state : inorder_in (inorder_place s (inorder_step_bound s)).run.demand (inorder_place s (inorder_step_bound s)).run.memory ≡ inorder s s.cycles
  pub still : (k : ℕ) → inorder_step_bound s ≤ k → inorder_place s k ≡ inorder_place s (inorder_step_bound s)
