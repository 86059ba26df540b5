-- The steps of the timing side: a turn, of whose orders one is told in each step.
use Rattle.std.specs.Prelude.{ℕ, ◌+◌, if◌then◌else◌, Bool, false, Option, Some, None, List, [], ◌∷◌}
use Rattle.rollback_cmds.specs.declared.order.Order.{Order}
use Rattle.rollback_cmds.specs.Order.{opens_epoch_of}
use Rattle.trace_entry.specs.declared.Entry.{Entry}
use Rattle.mono_model.specs.declared.setup.Setup.{Setup}
use Rattle.mono_model.specs.Demand.{At, interrupting, is_try}
use Rattle.timing_side.specs.Timing.{Timing, timing_start}
use Rattle.timing_side.specs.Turn.{timing_turn}

-- A place of the timing side.
pub record TimingPlace : Type 0 where
  pub timing : Timing
  -- the turn that comes next
  pub at : At
  -- the orders of the last turn that were not told yet, the newest first
  pub owed : List Order
  -- how many orders that open an epoch were told
  pub epoch : ℕ

-- before the first step
unfoldable pub timing_place_start : TimingPlace
timing_place_start = record { timing = timing_start; at = interrupting; owed = []; epoch = 0 }

-- of orders, the newest first, the oldest, and the others
abbrev pub oldest : Order → List Order → Order
oldest o [] = o
oldest o (older ∷ os) = oldest older os

abbrev pub younger : Order → List Order → List Order
younger o [] = []
younger o (older ∷ os) = o ∷ younger older os

-- A step: the place behind it, and the order that it tells, if it tells one.
pub record Stepped : Type 0 where
  pub place : TimingPlace
  pub told : Option Order

-- of the orders that stand to be told, the oldest is told
abbrev pub telling : Timing → At → ℕ → List Order → Stepped
telling t at epoch [] = record { place = record { timing = t; at = at; owed = []; epoch = epoch }; told = None }
telling t at epoch (o ∷ os) = record {
  place = record { timing = t; at = at; owed = younger o os; epoch = (if opens_epoch_of (oldest o os) then 1 else 0) + epoch };
  told = Some (oldest o os);
}

-- a turn is made where no order is owed
abbrev pub step_by : Setup → Entry → TimingPlace → List Order → Stepped
step_by s e p [] = let behind = timing_turn s e p.at p.timing in telling behind.timing behind.at p.epoch behind.orders
step_by s e p (o ∷ os) = telling p.timing p.at p.epoch (o ∷ os)

unfoldable pub timing_step : Setup → Entry → TimingPlace → Stepped
timing_step s e p = step_by s e p p.owed

-- the step needs the entry of the next instruction to fetch
abbrev pub wants_entry_by : List Order → At → Bool
wants_entry_by [] at = is_try at
wants_entry_by (o ∷ os) at = false

abbrev pub wants_entry : TimingPlace → Bool
wants_entry p = wants_entry_by p.owed p.at
