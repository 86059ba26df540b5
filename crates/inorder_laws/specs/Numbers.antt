-- How far the numbers of the in-order machine's run go.
use Rattle.std.specs.Prelude.{ℕ, ◌+◌, ◌≤◌, length}
use Rattle.mono_model.specs.declared.setup.Setup.{Setup}
use Rattle.mono_model.specs.Demand.{told}
use Rattle.machine_laws.specs.Numbers.{AreAtMost}
use Rattle.inorder_machine.specs.Demand.{InorderPlace, seen_of}

-- after so many steps
pub record IsInorderBounded (s : Setup) (k : ℕ) (p : InorderPlace) : Type 0 where
  pub cycle : p.run.demand.machine.cycle ≤ s.cycles
  -- a cycle commits one instruction at most
  pub to_commit : p.run.demand.to_commit ≤ s.cycles
  pub numbers : AreAtMost (s.cycles + s.params.core_window) (told (seen_of p))
  -- each step tells one order at most
  pub orders : length (told (seen_of p)) ≤ k
