use Rattle.std.proofs.Common.{◌≡◌, ℕ, ◌+◌, ◌*◌, ◌<◌, false}
use Rattle.mono_model.specs.Found.{has_text}
use Rattle.text_rows.proofs.text.holds_text.Given as goal

abbrev pub invariant-loop-word : goal.invariant-loop-word
invariant-loop-word l = (k : ℕ) → k < l.word → has_text l.image (l.page + 4 * k) ≡ false
