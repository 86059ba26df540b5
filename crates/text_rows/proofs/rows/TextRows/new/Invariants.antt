use Rattle.std.proofs.Common.{◌+◌, ◌*◌}
use Rattle.text_rows.specs.Rows.{AreRowsWithin}
use Rattle.text_rows.proofs.rows.TextRows.new.Given as goal

abbrev pub invariant-loop-page : goal.invariant-loop-page
invariant-loop-page l = AreRowsWithin l.image l.ram.base (l.ram.base + 4096 * l.page) l.addrs.items
