use Rattle.std.proofs.Common.{◌∙◌, length, ◌<◌, ap, sym, subst, arith}
use Rattle.func_model.specs.declared.hart.Hart.{Hart}
use Rattle.mono_model.specs.Path.{path}
use Rattle.func_model.proofs.Fetching.{still_stands}
use Rattle.func_model.proofs.Walking.{walk_retired, step_room, note_above, produced_on}
use Rattle.func_model.proofs.walk.Walk.carry_out.Goals as goal

pub carry_out-requires-clause-count : goal.carry_out-requires-clause-count
carry_out-requires-clause-count g c =
    omega (arith, ap (λ (x : Hart). x.csrs.retired) c.fetch-fetched.ensures.others, walk_retired c.requires.standing.setup c.requires.standing.orders c.args.self.now c.requires.standing.stands.holds, c.requires.bounded)

pub carry_out-requires-clause-room : goal.carry_out-requires-clause-room
carry_out-requires-clause-room g c =
    subst (λ (x : Hart). length x.output.items < x.room) (sym c.fetch-fetched.ensures.others)
    (step_room c.requires.standing.setup c.requires.standing.orders c.args.self.now c.requires.standing.stands c.requires.running c.requires.room)

pub note-requires-clause-above : goal.note-requires-clause-above
note-requires-clause-above g c = λ below.
    note_above c.requires.standing.setup c.requires.standing.orders c.args.self.now _ c.requires.standing.stands.holds below c.carry_out.ensures.number

pub returns-clause-produced : goal.returns-clause-produced
returns-clause-produced g c = λ s os h.
    let a = path s os c.args.self.now.position in
    let still = still_stands s a c.args.self.now.contents c.fetch-fetched.new.self c.fetch-fetched.ensures.others h.holds.contents in
    produced_on s os c.args.self.now c.carry_out.new.self c.time-time.result c.carry_out.result c.note.new.self h c.requires.running
    (c.time-time.ensures.time ∙ h.holds.given c.args.self.now.position)
    (c.carry_out.ensures.step s a still) (c.carry_out.ensures.room ∙ ap (λ (x : Hart). x.room) c.fetch-fetched.ensures.others)
    c.carry_out.ensures.number c.carry_out.ensures.restorable c.note.ensures.noted
