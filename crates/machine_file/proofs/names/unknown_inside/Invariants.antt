use Rattle.std.proofs.Common.{◌≡◌, map}
use Rattle.toml.specs.View.{members_view, table_view}
use Rattle.machine_file.specs.File.{unknown_inside}
use Rattle.machine_file.specs.Code.{row_of}
use Rattle.machine_file.proofs.names.unknown_inside.Given as goal

-- the first unknown of the names that are left is that of all
abbrev pub invariant-loop-name : goal.invariant-loop-name
invariant-loop-name l = unknown_inside (map row_of l.rows) l.section (members_view l.name-iterator) ≡ unknown_inside (map row_of l.rows) l.section (table_view l.names)
