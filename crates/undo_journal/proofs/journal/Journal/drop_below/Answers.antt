use Rattle.std.proofs.Common.{◌≡◌, ◌∙◌, drop}
use Rattle.undo_journal.specs.Journal.{from_number}
use Rattle.undo_journal.proofs.Steps as rising
use Rattle.undo_journal.proofs.journal.Journal.drop_below.Goals as goal

-- what stays behind the steps below n are the steps from n on
pub returns : goal.returns
returns c =
    let log = c.args.self.now in
    let below = c.count_below-below.ensures in
    let steps : drop c.from.result log.steps ≡ from_number c.args.n log.steps = rw (c.from.ensures, below.count) (rising.drop_below c.args.n log.steps below.rising) in
    record { kept = c.drop_oldest.ensures.kept ∙ λ i. record { room = log.room; steps = steps i } }
