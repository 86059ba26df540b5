use Rattle.std.proofs.Common.{arith}
use Rattle.func_model.proofs.Going.{newest_restorable, steps_back_holds}
use Rattle.func_model.proofs.walk.Walk.step_back_plain.Goals as goal

pub undo_plain-requires : goal.undo_plain-requires
undo_plain-requires g c = record {
  restorable = newest_restorable c.args.self.now c.newest_run-steps.result.now c.requires.holding c.newest_run-steps.ensures.newest;
}

pub returns-clause-holds : goal.returns-clause-holds
returns-clause-holds g c =
    let newest = c.newest_run-steps.ensures in
    steps_back_holds c.args.self.now c.undo_plain.new.self c.drop_newest.new.self c.newest_run-steps.result.now c.undo_plain.result (omega (arith, c.requires.above, c.requires.from)) newest.newest
    newest.within c.undo_plain.ensures.within c.drop_newest.ensures.kept c.undo_plain.ensures.stands c.undo_plain.ensures.room
