use Rattle.std.proofs.Common.{◌≡◌, map}
use Rattle.toml.specs.View.{members_view, table_view}
use Rattle.machine_file.specs.File.{unknown_key}
use Rattle.machine_file.specs.Code.{row_of}
use Rattle.machine_file.proofs.names.unknown_key.Given as goal

-- the first unknown of the names that are left is that of all
abbrev pub invariant-loop-top : goal.invariant-loop-top
invariant-loop-top l = unknown_key (map row_of l.rows) (members_view l.top-iterator) ≡ unknown_key (map row_of l.rows) (table_view l.file)
