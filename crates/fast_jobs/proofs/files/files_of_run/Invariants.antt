use Rattle.std.proofs.Common.{◌≡◌, ◌++◌, flat_map, option_copied, take}
use Rattle.fast_jobs.specs.Files.{file_if_named}
use Rattle.fast_jobs.proofs.files.files_of_run.Given as goal

abbrev pub invariant-loop-row : goal.invariant-loop-row
invariant-loop-row l = l.files.items ≡ l.initial.files.items ++ flat_map (λ row. file_if_named row.0 (option_copied row.1)) (take l.row-index l.rows)
