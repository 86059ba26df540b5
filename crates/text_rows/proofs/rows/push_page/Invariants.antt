use Rattle.std.proofs.Common.{ℕ, ◌+◌, ◌*◌}
use Rattle.text_rows.specs.Rows.{AreRowsWithin}
use Rattle.text_rows.proofs.rows.push_page.Given as goal

abbrev pub invariant-loop-word : goal.invariant-loop-word
invariant-loop-word l =
    (first : ℕ) → AreRowsWithin l.image first l.page l.fn.addrs.items → AreRowsWithin l.image first (l.page + 4 * l.word) l.addrs.items
