use Rattle.std.proofs.Common.{◌≡◌, ℕ, ◌<◌, [], slice_index, slice_index_or}
use Rattle.std.specs.Prelude.{None, IsTrue}
use Rattle.phys_mem.specs.Page.{marked_in, copied_in}
use Rattle.phys_mem.proofs.text.copy_pages.Given as goal

-- the marks stay, and the copies so far are those of their pages
abbrev pub invariant-loop-i : goal.invariant-loop-i
invariant-loop-i l = record {
  marks : (k : ℕ) → marked_in (slice_index_or l.texts k None) ≡ marked_in (slice_index_or l.fn.texts k None);
  bytes : (k offset : ℕ) → k < l.i → IsTrue (marked_in (slice_index_or l.fn.texts k None) offset) → copied_in (slice_index_or l.texts k None) offset ≡ slice_index (slice_index_or l.pages k []) offset;
}
