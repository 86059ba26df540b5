use Rattle.std.proofs.Common.{◌≡◌, map, drop}
use Rattle.std.specs.List.{list_any}
use Rattle.machine_file.specs.File.{has_inside}
use Rattle.machine_file.specs.Code.{row_of}
use Rattle.machine_file.proofs.names.is_inside.Given as goal

-- one of the rows that are left has the name exactly where one of all has
abbrev pub invariant-loop-row : goal.invariant-loop-row
invariant-loop-row l = list_any (has_inside l.section l.name) (map row_of (drop l.row-index l.rows)) ≡ list_any (has_inside l.section l.name) (map row_of l.rows)
