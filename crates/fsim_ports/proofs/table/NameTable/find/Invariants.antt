use Rattle.std.proofs.Common.{◌≡◌, drop}
use Rattle.fsim_ports.specs.Files.{lookup}
use Rattle.fsim_ports.proofs.table.NameTable.find.Given as goal

-- no name passed so far is the one that is sought
abbrev pub invariant-loop-held : goal.invariant-loop-held
invariant-loop-held l = lookup (drop l.held-index l.held-items) l.name ≡ lookup l.held-items l.name
