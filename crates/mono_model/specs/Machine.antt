-- The state of the monolithic machine: a pipeline around a reorder buffer, read as one sequential machine that holds
-- operand values and executes at issue (Hennessy and Patterson, Computer Architecture, section 3.6).
use Rattle.std.specs.Prelude.{ℕ, ◌+◌, ◌-◌, Bool, false, Option, None, List, [], length}
use Rattle.branch_predictor.specs.Predictor.{Predicting, untrained}
use Rattle.cache_timing.specs.Caches.{CachesState, cold}
use Rattle.mono_model.specs.declared.setup.Setup.{Setup}
use Rattle.mono_model.specs.declared.final_state.End.{End}
use Rattle.mono_model.specs.declared.final_state.End.TheVariants.{Running}
use Rattle.mono_model.specs.declared.final_state.Stats.{Stats}
use Rattle.mono_model.specs.declared.final_state.Final.{Final}
use Rattle.mono_model.specs.Arch.{Arch, start}
use Rattle.mono_model.specs.Final.{final_of}
use Rattle.mono_model.specs.Window.{Record}

-- What the phases count.
pub record Counts : Type 0 where
  pub exceptions : ℕ
  pub interrupts : ℕ
  pub replays : ℕ
  pub fetched : ℕ
  pub squashed : ℕ
  pub branches : ℕ
  pub mispredicted : ℕ

pub record Machine : Type 0 where
  pub cycle : ℕ
  -- the committed state
  pub arch : Arch
  -- the oldest record first
  pub window : List Record
  pub fetch_addr : ℕ
  -- the cycle from which on fetch goes on after a miss
  pub resume : ℕ
  -- the miss of the record to fetch next was counted
  pub paid : Bool
  -- the time for the record to fetch next, in cycles
  pub kept : Option ℕ
  pub predictor : Predicting
  pub caches : CachesState
  pub counts : Counts
  pub end : End

unfoldable pub machine_start : Setup → Machine
machine_start s = record {
  cycle = 0;
  arch = start s;
  window = [];
  fetch_addr = s.image.entry;
  resume = 0;
  paid = false;
  kept = None;
  predictor = untrained;
  caches = cold;
  counts = record { exceptions = 0; interrupts = 0; replays = 0; fetched = 0; squashed = 0; branches = 0; mispredicted = 0 };
  end = Running;
}

-- A flush keeps the front of the window, and fetch goes on at an address.
unfoldable pub flushed : List Record → ℕ → Machine → Machine
flushed front addr m = record m {
  window = front;
  fetch_addr = addr;
  resume = 0;
  paid = false;
  counts = record m.counts { squashed = m.counts.squashed + (length m.window - length front) };
}

-- the counts of a run
abbrev pub stats_of : Setup → Machine → Stats
stats_of s m = record {
  version = s.params.version;
  cycles = m.cycle;
  instructions = m.arch.csrs.retired;
  exceptions = m.counts.exceptions;
  interrupts = m.counts.interrupts;
  replays = m.counts.replays;
  fetched = m.counts.fetched;
  squashed = m.counts.squashed;
  branches = m.counts.branches;
  mispredicted = m.counts.mispredicted;
  icache_accesses = m.caches.counts.icache_accesses;
  icache_misses = m.caches.counts.icache_misses;
  dcache_accesses = m.caches.counts.dcache_accesses;
  dcache_misses = m.caches.counts.dcache_misses;
  l2_accesses = m.caches.counts.l2_accesses;
  l2_misses = m.caches.counts.l2_misses;
  writebacks = m.caches.counts.writebacks;
  output = length m.arch.output;
}

-- what is reported of the machine
unfoldable pub machine_final : Setup → Machine → Final
machine_final s m = final_of m.end (stats_of s m) m.arch
