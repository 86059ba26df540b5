use Rattle.std.proofs.Common.{refl, arith}
use Rattle.mono_model.specs.Path.{path, time_of}
use Rattle.func_model.proofs.Walking.{walk_retired, note_above, produced_on}
use Rattle.func_model.proofs.walk.Walk.store_into.Goals as goal

pub store-requires : goal.store-requires
store-requires g c = record {
  count = omega (arith, walk_retired c.requires.standing.setup c.requires.standing.orders c.args.self.now c.requires.standing.stands.holds, c.requires.bounded);
}

pub note-requires-clause-above : goal.note-requires-clause-above
note-requires-clause-above g c = λ below.
    note_above c.requires.standing.setup c.requires.standing.orders c.args.self.now _ c.requires.standing.stands.holds below c.in-Some.ensures.number

pub returns-clause-produced : goal.returns-clause-produced
returns-clause-produced g c = λ did s os h.
    let time = time_of os c.args.self.now.position in
    produced_on s os c.args.self.now c.store.new.self time (c.in-Some.made, c.in-Some.past) c.note.new.self h c.requires.running refl
    (c.in-Some.ensures.step s time (path s os c.args.self.now.position) h.holds.contents) c.in-Some.ensures.room c.in-Some.ensures.number c.in-Some.ensures.restorable c.note.ensures.noted
