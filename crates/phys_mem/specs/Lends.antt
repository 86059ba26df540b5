-- What pages end as, once a `&mut` to one of them has ended.
use Rattle.std.specs.Prelude.{ℕ, List, slice_set}
use Rattle.std.specs.Borrow.{Fml, MutBor, Array, Lends, u8}
use Rattle.phys_mem.specs.contracts.pages.Pages.{the_row}

-- the page at the index is what was last written through r
abbrev pub lends_page : MutBor (List (List ℕ)) → ℕ → MutBor (List ℕ) → Fml
lends_page pages index r = Lends the_row (Array u8 4096) pages r (slice_set pages.now index)
