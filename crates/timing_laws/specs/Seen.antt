-- What the timing side holds of the demand run: its slots are the records with the values left out, told of by the
-- entries of the path under the orders made so far.
use Rattle.std.specs.Prelude.{ℕ, suc, ◌&&◌, List, [], ◌∷◌, ◌++◌, length, take, ◌≡◌}
use Rattle.trace_entry.specs.declared.Entry.{Entry}
use Rattle.reorder_buffer.specs.declared.slot.Slot.{Slot}
use Rattle.reorder_buffer.specs.declared.slot.SlotState.{SlotState}
use Rattle.reorder_buffer.specs.declared.slot.SlotState.TheVariants.{Waiting, Until, Done}
use Rattle.mono_model.specs.declared.setup.Setup.{Setup}
use Rattle.mono_model.specs.Arch.{compare_of}
use Rattle.mono_model.specs.Path.{entry, openings}
use Rattle.mono_model.specs.Window.{Record, Stage, waiting, until, done}
use Rattle.mono_model.specs.Demand.{Demand, Run, turn, Place, told}
use Rattle.reorder_buffer.specs.Held.{slot_from}
use Rattle.timing_side.specs.Timing.{Timing}
use Rattle.timing_side.specs.Turn.{Turned}
use Rattle.timing_side.specs.Step.{TimingPlace}

-- a stage without its result
abbrev pub state_of : Stage → SlotState
state_of waiting = Waiting
state_of (until e r) = Until e
state_of (done r) = Done

-- a record, as it was told
abbrev pub slot_of : Entry → Record → Slot
slot_of e rec = slot_from e rec.predicted rec.since (state_of rec.stage)

-- the records of a window, of which the oldest has number `n`
abbrev pub slots_of : (ℕ → Entry) → ℕ → List Record → List Slot
slots_of entries n [] = []
slots_of entries n (rec ∷ rest) = slot_of (entries n) rec ∷ slots_of entries (suc n) rest

-- what the timing side holds of a state of the demand run
unfoldable pub seen : Setup → Demand → Timing
seen s d = record {
  cycle = d.machine.cycle;
  to_commit = d.to_commit;
  slots = slots_of (entry s d.orders) d.to_commit d.machine.window;
  resume = d.machine.resume;
  paid = d.machine.paid;
  predictor = d.machine.predictor;
  caches = d.machine.caches;
  counts = d.machine.counts;
  retired = d.machine.arch.csrs.retired;
  output = length d.machine.arch.output;
  irq_on = d.machine.arch.csrs.mie && d.machine.arch.csrs.mtie;
  cmp = compare_of d.machine.arch.devices;
  end = d.machine.end;
}

-- and at a place of it
unfoldable pub seen_at : Setup → Place → TimingPlace
seen_at s p = record {
  timing = seen s p.run.demand;
  at = p.run.at;
  owed = take p.owed p.run.demand.orders;
  epoch = openings (told p);
}

-- A turn of the timing side is that of the demand run: what it holds behind it, the turn that comes next, and the orders.
pub record IsTurn (s : Setup) (before : Run) (made : Turned) : Type 0 where
  pub timing : made.timing ≡ seen s (turn s before).demand
  pub at : made.at ≡ (turn s before).at
  pub orders : made.orders ++ before.demand.orders ≡ (turn s before).demand.orders
