-- The state of the timing side: the monolithic machine with the values left out. It knows of an instruction what it was
-- told, and of the committed state no more than how many instructions retired, how many bytes were sent, and when the
-- timer interrupts (Chiou et al., FPGA-Accelerated Simulation Technologies, MICRO 2007, the timing model).
use Rattle.std.specs.Prelude.{ℕ, ◌+◌, ◌-◌, ◌^◌, Bool, false, List, [], ◌∷◌, length}
use Rattle.branch_predictor.specs.Predictor.{Predicting, untrained}
use Rattle.cache_timing.specs.Caches.{CachesState, cold}
use Rattle.rollback_cmds.specs.declared.order.Order.{Order}
use Rattle.reorder_buffer.specs.declared.slot.Slot.{Slot}
use Rattle.mono_model.specs.declared.final_state.End.{End}
use Rattle.mono_model.specs.declared.final_state.End.TheVariants.{Running}
use Rattle.mono_model.specs.declared.final_state.Stats.{Stats}
use Rattle.mono_model.specs.declared.setup.Setup.{Setup}
use Rattle.mono_model.specs.Machine.{Counts}

pub record Timing : Type 0 where
  pub cycle : ℕ
  -- the number of the next instruction to commit; the slot at place i has number to_commit + i
  pub to_commit : ℕ
  -- the oldest slot first
  pub slots : List Slot
  -- the cycle from which on fetch goes on after a miss
  pub resume : ℕ
  -- the miss of the instruction to fetch next was counted
  pub paid : Bool
  pub predictor : Predicting
  pub caches : CachesState
  pub counts : Counts
  -- how many instructions retired
  pub retired : ℕ
  -- how many bytes were sent
  pub output : ℕ
  -- whether the timer interrupt is enabled, and the cycle from which on it is pending
  pub irq_on : Bool
  pub cmp : ℕ
  pub end : End

-- before the first cycle: nothing is under way, and the timer is set to the end of time
unfoldable pub timing_start : Timing
timing_start = record {
  cycle = 0;
  to_commit = 0;
  slots = [];
  resume = 0;
  paid = false;
  predictor = untrained;
  caches = cold;
  counts = record { exceptions = 0; interrupts = 0; replays = 0; fetched = 0; squashed = 0; branches = 0; mispredicted = 0 };
  retired = 0;
  output = 0;
  irq_on = false;
  cmp = 2 ^ 64 - 1;
  end = Running;
}

-- A flush keeps the front of the slots.
unfoldable pub cut_to : List Slot → Timing → Timing
cut_to front t = record t {
  slots = front;
  resume = 0;
  paid = false;
  counts = record t.counts { squashed = t.counts.squashed + (length t.slots - length front) };
}

-- the counts of the run
abbrev pub timing_stats : Setup → Timing → Stats
timing_stats s t = record {
  version = s.params.version;
  cycles = t.cycle;
  instructions = t.retired;
  exceptions = t.counts.exceptions;
  interrupts = t.counts.interrupts;
  replays = t.counts.replays;
  fetched = t.counts.fetched;
  squashed = t.counts.squashed;
  branches = t.counts.branches;
  mispredicted = t.counts.mispredicted;
  icache_accesses = t.caches.counts.icache_accesses;
  icache_misses = t.caches.counts.icache_misses;
  dcache_accesses = t.caches.counts.dcache_accesses;
  dcache_misses = t.caches.counts.dcache_misses;
  l2_accesses = t.caches.counts.l2_accesses;
  l2_misses = t.caches.counts.l2_misses;
  writebacks = t.caches.counts.writebacks;
  output = t.output;
}

-- A phase: the state behind it, and the orders that it makes, the newest first.
pub record Phase : Type 0 where
  pub timing : Timing
  pub orders : List Order

abbrev pub quiet : Timing → Phase
quiet t = record { timing = t; orders = [] }

abbrev pub ordering : Order → Timing → Phase
ordering o t = record { timing = t; orders = o ∷ [] }
