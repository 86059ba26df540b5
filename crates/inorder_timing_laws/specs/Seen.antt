-- What the in-order machine's timing side holds of its demand run: of the monolithic machine's state in it what that
-- machine's timing side holds, and the cycle in which the record in Memory goes on.
use Rattle.std.specs.Prelude.{ℕ, ◌++◌, ◌≡◌, Option, take}
use Rattle.mono_model.specs.declared.setup.Setup.{Setup}
use Rattle.mono_model.specs.Path.{openings}
use Rattle.mono_model.specs.Demand.{Demand, told}
use Rattle.timing_laws.specs.Seen.{seen}
use Rattle.inorder_machine.specs.Demand.{InorderRun, inorder_turn, InorderPlace, seen_of}
use Rattle.inorder_side.specs.Timing.{InorderTiming}
use Rattle.inorder_side.specs.Turn.{InorderTurned}
use Rattle.inorder_side.specs.Step.{InorderTimingPlace}

-- what it holds of a state
abbrev pub inorder_held : Setup → Demand → Option ℕ → InorderTiming
inorder_held s d memory = record { timing = seen s d; memory = memory }

-- and at a place
unfoldable pub inorder_held_at : Setup → InorderPlace → InorderTimingPlace
inorder_held_at s p = record {
  inorder = inorder_held s p.run.demand p.run.memory;
  at = p.run.at;
  owed = take p.owed p.run.demand.orders;
  epoch = openings (told (seen_of p));
}

-- A turn of the timing side is that of the demand run: what it holds behind it, the turn that comes next, and the orders.
pub record IsInorderTurn (s : Setup) (before : InorderRun) (made : InorderTurned) : Type 0 where
  pub inorder : made.inorder ≡ inorder_held s (inorder_turn s before).demand (inorder_turn s before).memory
  pub at : made.at ≡ (inorder_turn s before).at
  pub orders : made.orders ++ before.demand.orders ≡ (inorder_turn s before).demand.orders
