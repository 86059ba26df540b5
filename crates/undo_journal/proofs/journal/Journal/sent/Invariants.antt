use Rattle.std.proofs.Common.{◌≡◌, ◌≤◌, length, take}
use Rattle.std.specs.Prelude.{filter}
use Rattle.undo_journal.proofs.journal.Journal.sent.Given as goal

-- the bytes of the steps so far
abbrev pub invariant-loop-passed : goal.invariant-loop-passed
invariant-loop-passed l = (l.sent ≡ length (filter (λ past. past.out) (take l.passed l.self.steps))) × (l.sent ≤ l.passed)
