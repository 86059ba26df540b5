-- The commands as the code names them.
use Rattle.fast_cli.specs.Line.{Command, back_command, count_command, func_command, gdb_command}
use Rattle.fast_cli.specs.Line.{inorder_command, profile_command, run_command, sched_command}
use Rattle.fast_cli.specs.Line.{soak_command, stack_command, sweep_command, trace_command}
use Rattle.fast_cli.specs.declared.table.CommandName.{CommandName}
use Rattle.fast_cli.specs.declared.table.CommandName.TheVariants as name

abbrev pub command_in : CommandName → Command
command_in name.Func = func_command
command_in name.Run = run_command
command_in name.Sched = sched_command
command_in name.Soak = soak_command
command_in name.Back = back_command
command_in name.Inorder = inorder_command
command_in name.Sweep = sweep_command
command_in name.Trace = trace_command
command_in name.Stack = stack_command
command_in name.Profile = profile_command
command_in name.Count = count_command
command_in name.Gdb = gdb_command
