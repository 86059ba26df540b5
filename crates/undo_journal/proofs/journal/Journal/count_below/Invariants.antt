use Rattle.std.proofs.Common.{◌<◌, ℕ, get_or}
use Rattle.undo_journal.specs.declared.past.Past.{Past}
use Rattle.undo_journal.proofs.journal.Journal.count_below.Given as goal

-- the steps so far are below
abbrev pub invariant-loop-below : goal.invariant-loop-below
invariant-loop-below l = (k : ℕ) (d : Past) → k < l.below → (get_or l.self.steps k d).number < l.fn.n
