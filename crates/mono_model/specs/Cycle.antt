-- A cycle of the monolithic machine, and the machine after any number of cycles.
use Rattle.std.specs.Prelude.{ℕ, zero, suc, ◌+◌, ◌==◌, if◌then◌else◌}
use Rattle.mono_model.specs.declared.final_state.End.TheVariants.{Limit}
use Rattle.mono_model.specs.declared.final_state.Final.{Final}
use Rattle.mono_model.specs.declared.setup.Setup.{Setup}
use Rattle.mono_model.specs.Final.{has_ended}
use Rattle.mono_model.specs.Machine.{Machine, machine_start, machine_final}
use Rattle.mono_model.specs.Interrupt.{interrupt_phase}
use Rattle.mono_model.specs.Commit.{commit_phase}
use Rattle.mono_model.specs.Complete.{complete_phase}
use Rattle.mono_model.specs.Issue.{issue_phase}
use Rattle.mono_model.specs.Fetch.{fetch_phase}

-- the phases behind commit are left out where the run has ended
abbrev pub after_commit : Setup → Machine → Machine
after_commit s m = if has_ended m.end then m else fetch_phase s (issue_phase s (complete_phase m))

-- the phases of a cycle
abbrev pub phases : Setup → Machine → Machine
phases s m = after_commit s (commit_phase s (interrupt_phase m)).machine

-- the end of a cycle: a run that has not ended ends at the limit
unfoldable pub end_of_cycle : Setup → Machine → Machine
end_of_cycle s m = record m {
  cycle = m.cycle + 1;
  end = if has_ended m.end then m.end else (if m.cycle + 1 == s.cycles then Limit else m.end);
}

-- a cycle, where the run has not ended
unfoldable pub cycled : Setup → Machine → Machine
cycled s m = if has_ended m.end then m else end_of_cycle s (phases s m)

-- the machine after so many cycles
unfoldable pub mono : Setup → ℕ → Machine
mono s zero = machine_start s
mono s (suc c) = cycled s (mono s c)

-- what is reported after so many cycles
abbrev pub final : Setup → ℕ → Final
final s c = machine_final s (mono s c)
