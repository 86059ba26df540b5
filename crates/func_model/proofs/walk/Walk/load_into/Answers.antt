use Rattle.std.proofs.Common.{◌∙◌, arith}
use Rattle.mono_model.specs.Path.{path}
use Rattle.func_model.proofs.Walking.{walk_retired, note_above, produced_on}
use Rattle.func_model.proofs.walk.Walk.load_into.Goals as goal

pub load-requires : goal.load-requires
load-requires g c = record {
  count = omega (arith, walk_retired c.requires.standing.setup c.requires.standing.orders c.args.self.now c.requires.standing.stands.holds, c.requires.bounded);
}

pub note-requires-clause-above : goal.note-requires-clause-above
note-requires-clause-above g c = λ below.
    note_above c.requires.standing.setup c.requires.standing.orders c.args.self.now _ c.requires.standing.stands.holds below c.in-Some.ensures.number

pub returns-clause-produced : goal.returns-clause-produced
returns-clause-produced g c = λ did s os h.
    produced_on s os c.args.self.now c.load.new.self c.time-time.result (c.in-Some.made, c.in-Some.past) c.note.new.self h c.requires.running
    (c.time-time.ensures.time ∙ h.holds.given c.args.self.now.position)
    (c.in-Some.ensures.step s (path s os c.args.self.now.position) h.holds.contents) c.in-Some.ensures.room c.in-Some.ensures.number c.in-Some.ensures.restorable c.note.ensures.noted
