-- The steps of the in-order machine's timing side: a turn, of whose orders one is told in each step.
use Rattle.std.specs.Prelude.{ℕ, ◌+◌, if◌then◌else◌, Bool, false, Option, Some, None, List, [], ◌∷◌}
use Rattle.rollback_cmds.specs.declared.order.Order.{Order}
use Rattle.rollback_cmds.specs.Order.{opens_epoch_of}
use Rattle.trace_entry.specs.declared.Entry.{Entry}
use Rattle.mono_model.specs.declared.setup.Setup.{Setup}
use Rattle.mono_model.specs.Demand.{is_try}
use Rattle.timing_side.specs.Step.{oldest, younger}
use Rattle.inorder_machine.specs.Demand.{InorderAt, interrupting, seen_at}
use Rattle.inorder_side.specs.Timing.{InorderTiming, inorder_timing_start}
use Rattle.inorder_side.specs.Turn.{timing_inorder_turn}

-- A place of the timing side.
pub record InorderTimingPlace : Type 0 where
  pub inorder : InorderTiming
  -- the turn that comes next
  pub at : InorderAt
  -- the orders of the last turn that were not told yet, the newest first
  pub owed : List Order
  -- how many orders that open an epoch were told
  pub epoch : ℕ

-- before the first step
unfoldable pub inorder_timing_place_start : InorderTimingPlace
inorder_timing_place_start = record { inorder = inorder_timing_start; at = interrupting; owed = []; epoch = 0 }

-- A step: the place behind it, and the order that it tells, if it tells one.
pub record InorderStepped : Type 0 where
  pub place : InorderTimingPlace
  pub told : Option Order

-- of the orders that stand to be told, the oldest is told
abbrev pub telling : InorderTiming → InorderAt → ℕ → List Order → InorderStepped
telling l at epoch [] = record { place = record { inorder = l; at = at; owed = []; epoch = epoch }; told = None }
telling l at epoch (o ∷ os) = record {
  place = record { inorder = l; at = at; owed = younger o os; epoch = (if opens_epoch_of (oldest o os) then 1 else 0) + epoch };
  told = Some (oldest o os);
}

-- a turn is made where no order is owed
abbrev pub step_by : Setup → Entry → InorderTimingPlace → List Order → InorderStepped
step_by s e p [] = let behind = timing_inorder_turn s e p.at p.inorder in telling behind.inorder behind.at p.epoch behind.orders
step_by s e p (o ∷ os) = telling p.inorder p.at p.epoch (o ∷ os)

unfoldable pub timing_inorder_step : Setup → Entry → InorderTimingPlace → InorderStepped
timing_inorder_step s e p = step_by s e p p.owed

-- the step needs the entry of the next instruction to fetch
abbrev pub wants_entry_by : List Order → InorderAt → Bool
wants_entry_by [] at = is_try (seen_at at)
wants_entry_by (o ∷ os) at = false

abbrev pub wants_entry : InorderTimingPlace → Bool
wants_entry p = wants_entry_by p.owed p.at
