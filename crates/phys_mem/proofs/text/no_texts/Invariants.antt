use Rattle.std.proofs.Common.{◌≡◌, ℕ, length, slice_index_or}
use Rattle.std.specs.Prelude.{None}
use Rattle.phys_mem.proofs.text.no_texts.Given as goal

-- none so far has text
abbrev pub invariant-loop : goal.invariant-loop
invariant-loop l = record {
  count : length l.texts.items ≡ l.counter;
  none : (i : ℕ) → slice_index_or l.texts.items i None ≡ None;
}
