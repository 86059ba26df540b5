use Rattle.std.proofs.Common.{◌≡◌, ◌++◌, map, take}
use Rattle.report_text.specs.declared.status.Role.TheVariants as role
use Rattle.fast_jobs.specs.Files.{file}
use Rattle.fast_jobs.proofs.files.push_machines.Given as goal

abbrev pub invariant-loop-machine : goal.invariant-loop-machine
invariant-loop-machine l = l.files.items ≡ l.initial.files.items ++ map (file role.Machine) (take l.machine-index l.machines)
