use Rattle.text_rows.proofs.Pages.{PagesTo}
use Rattle.text_rows.proofs.text.pages_in.Given as goal

abbrev pub invariant-loop-page : goal.invariant-loop-page
invariant-loop-page l = PagesTo l.image l.ram l.page l.count
