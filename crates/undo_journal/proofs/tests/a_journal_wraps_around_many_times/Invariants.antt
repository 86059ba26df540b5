use Rattle.std.proofs.Common.{◌<◌, All}
use Rattle.undo_journal.proofs.tests.a_journal_wraps_around_many_times.Given as goal

-- every number so far is below the next
abbrev pub invariant-loop-number : goal.invariant-loop-number
invariant-loop-number g l = All (λ p. p.number < l.number-counter) l.journal.steps
