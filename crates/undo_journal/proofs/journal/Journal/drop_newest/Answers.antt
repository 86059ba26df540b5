use Rattle.std.proofs.Common.{◌-◌, arith}
use Rattle.undo_journal.proofs.Ring.{fewer_kept}
use Rattle.undo_journal.proofs.journal.Journal.drop_newest.Goals as goal

pub invariant_of-self : goal.invariant_of-self
invariant_of-self c =
    let now = c.self.inside in
    fewer_kept now.places.items now.mask now.room now.first now.count c.self.invariant (now.count - c.min.result) (omega arith)
