-- A run that the tests hand over: no program is loaded and the entry address is 0, so every fetch
-- fails and its trap leads to address 0 again, while fetch goes on along 0, 4, 8 and so on. No
-- instruction is through the front of the pipeline before the run ends in cycle 11. So each of the
-- 88 instructions that are fetched gives one order: that the next one stands 4 further.
use Rattle.std.specs.Prelude.{ℕ, zero, suc, ◌+◌, ◌*◌, ◌^◌, ◌-◌, false, Option, None, Some}
use Rattle.fsim_base.specs.declared.access.Access.TheVariants.{Nothing}
use Rattle.fsim_base.specs.declared.cause.Cause.TheVariants.{InstructionAccess}
use Rattle.fsim_base.specs.declared.instruction.Class.TheVariants.{Alu}
use Rattle.trace_entry.specs.declared.Entry.{Entry}
use Rattle.rollback_cmds.specs.declared.order.Order.{Order}
use Rattle.rollback_cmds.specs.declared.order.Order.TheVariants.{Set}
use Rattle.mono_model.specs.declared.params.Params.{Params}
use Rattle.mono_model.specs.declared.setup.Setup.{Setup}
use Rattle.mono_model.specs.Plain.{plain_params}
use Rattle.trace_ring.specs.NoRun.{no_setup}

abbrev pub trial_params : Params
trial_params = record plain_params {
  ram_size = 4096;
  core_fetch = 8;
  core_front = 32;
  core_window = 256;
  predictor_counters = 1;
  icache_sets = 1;
  dcache_sets = 1;
  l2_sets = 1;
}

abbrev pub trial : Setup
trial = record no_setup { params = trial_params; cycles = 11; ring = 16 }

-- a fetch that fails at an address
abbrev pub refused_fetch : ℕ → ℕ → ℕ → Entry
refused_fetch epoch number addr = record {
  number = number;
  epoch = epoch;
  addr = addr;
  word = 0;
  access = Nothing;
  next = 0;
  cause = Some InstructionAccess;
  class = Alu;
  unserved = false;
  out = None;
  halt = None;
  irq_on = false;
  cmp = 2 ^ 64 - 1;
}

-- the order in a place: the instruction behind it stands at the next word
abbrev pub next_word : ℕ → Order
next_word place = Set (place + 1) (4 * (place + 1))

-- epoch and number of the entry before instruction `number` of epoch 0
abbrev pub before : ℕ → Option (ℕ × ℕ)
before zero = None
before (suc number) = Some (0, number)
