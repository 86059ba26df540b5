use Rattle.std.proofs.Common.{◌≡◌, ◌<◌, ◌+◌, ◌++◌, ◌∷◌, [], IfSome, set, arith, ap, sym, subst, ◌∙◌}
use Rattle.undo_journal.specs.Journal.{Log, newest}
use Rattle.undo_journal.specs.Ring.{held}
use Rattle.undo_journal.proofs.Ring.{noted_kept, noted_steps, length_log}
use Rattle.undo_journal.proofs.journal.Journal.note.Goals as goal

pub invariant_of-self : goal.invariant_of-self
invariant_of-self c =
    let now = c.self.inside in
    let long = length_log now.places.items now.mask now.room now.first now.count c.self.invariant c.args.self.now c.self.view_is in
    let room = ap (λ (log : Log). log.room) c.self.view_is in
    rw c.behind-place.ensures.place (noted_kept now.places.items now.mask now.room now.first now.count c.self.invariant c.args.p
    (omega (arith, c.requires.room, long, room))
    (subst (λ (log : Log). IfSome (newest log.steps) (λ q. q.number < c.args.p.number)) (sym c.self.view_is) c.requires.above))

pub returns : goal.returns
returns c =
    let now = c.self.inside in
    let long = length_log now.places.items now.mask now.room now.first now.count c.self.invariant c.args.self.now c.self.view_is in
    let room = ap (λ (log : Log). log.room) c.self.view_is in
    let noted : held (set now.places.items c.behind-place.result c.args.p) now.first (now.count + 1) ≡ held now.places.items now.first now.count ++ c.args.p ∷ [] =
    rw c.behind-place.ensures.place (noted_steps now.places.items now.mask now.room now.first now.count c.self.invariant c.args.p (omega (arith, c.requires.room, long, room))) in
    let steps = noted ∙ ap (λ (log : Log). log.steps ++ c.args.p ∷ []) c.self.view_is in
    record { noted = λ i. record { room = (c.self.view_is i).room; steps = steps i } }
