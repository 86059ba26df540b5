-- A cycle of the in-order machine, and the machine after any number of cycles.
use Rattle.std.specs.Prelude.{ℕ, zero, suc, ◌++◌, if◌then◌else◌}
use Rattle.mono_model.specs.declared.final_state.Final.{Final}
use Rattle.mono_model.specs.declared.setup.Setup.{Setup}
use Rattle.mono_model.specs.Final.{has_ended}
use Rattle.mono_model.specs.Machine.{machine_final}
use Rattle.mono_model.specs.Cycle.{end_of_cycle}
use Rattle.mono_model.specs.Report.{Text, closed_output, report_text}
use Rattle.inorder_machine.specs.InorderMachine.{InorderMachine, inorder_start}
use Rattle.inorder_machine.specs.Write.{inorder_interrupt, inorder_write}
use Rattle.inorder_machine.specs.Memory.{inorder_memory}
use Rattle.inorder_machine.specs.Execute.{inorder_execute}
use Rattle.inorder_machine.specs.Issue.{inorder_issue}
use Rattle.inorder_machine.specs.Fetch.{inorder_fetch}

-- the phases behind Write are left out where the run has ended
abbrev pub after_write : Setup → InorderMachine → InorderMachine
after_write s l =
    if has_ended l.machine.end then l else inorder_fetch s (inorder_issue s (inorder_execute s (inorder_memory l)))

-- the phases of a cycle
abbrev pub inorder_phases : Setup → InorderMachine → InorderMachine
inorder_phases s l = after_write s (inorder_write s (inorder_interrupt l))

abbrev pub inorder_cycle_end : Setup → InorderMachine → InorderMachine
inorder_cycle_end s l = record l { machine = end_of_cycle s l.machine }

-- a cycle, where the run has not ended
unfoldable pub inorder_cycled : Setup → InorderMachine → InorderMachine
inorder_cycled s l = if has_ended l.machine.end then l else inorder_cycle_end s (inorder_phases s l)

-- the machine after so many cycles
unfoldable pub inorder : Setup → ℕ → InorderMachine
inorder s zero = inorder_start s
inorder s (suc c) = inorder_cycled s (inorder s c)

-- what is reported after so many cycles, and what is written
abbrev pub inorder_final : Setup → ℕ → Final
inorder_final s c = machine_final s (inorder s c).machine

unfoldable pub inorder_text : Setup → ℕ → Text
inorder_text s c = closed_output (inorder s c).machine.arch.output ++ report_text (inorder_final s c)
