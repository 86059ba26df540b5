-- A demand run as the law of the split state takes it: that of the monolithic machine, or of another machine that goes
-- along the same path.
use Rattle.std.specs.Prelude.{ℕ, ◌*◌}
use Rattle.trace_entry.specs.declared.Entry.{Entry}
use Rattle.mono_model.specs.declared.setup.Setup.{Setup}
use Rattle.mono_model.specs.Machine.{Machine}
use Rattle.mono_model.specs.Cycle.{mono}
use Rattle.mono_model.specs.Demand.{Place, place, step_bound, entry_in}

pub record DemandRun : Type 0 where
  -- the place after so many steps
  pub places : ℕ → Place
  -- the machine after so many cycles
  pub machines : ℕ → Machine
  -- how many instructions all its cycles can commit
  pub commits : ℕ
  -- how many steps it has at most before it stands still
  pub bound : ℕ
  -- the entry of an instruction, by epoch and number
  pub entry_of : ℕ → ℕ → Entry

abbrev pub mono_run : Setup → DemandRun
mono_run s = record {
  places = place s;
  machines = mono s;
  commits = s.params.core_commit * s.cycles;
  bound = step_bound s;
  entry_of = entry_in s;
}
