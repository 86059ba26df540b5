use Rattle.std.proofs.Common.{◌≡◌, ◌-◌, min, drop, arith, ap, ◌∙◌}
use Rattle.undo_journal.specs.Journal.{Log}
use Rattle.undo_journal.specs.Ring.{held}
use Rattle.undo_journal.proofs.Ring.{later_kept, held_without}
use Rattle.undo_journal.proofs.journal.Journal.drop_oldest.Goals as goal

pub invariant_of-self : goal.invariant_of-self
invariant_of-self c =
    let now = c.self.inside in
    rw c.behind-self-inside.ensures.place (later_kept now.places.items now.mask now.room now.first now.count c.self.invariant c.min-gone.result (omega (arith, c.min-gone.ensures, c.from.ensures)))

pub returns : goal.returns
returns c =
    let now = c.self.inside in
    let fewer : c.min-gone.result ≡ min c.args.count now.count = omega (arith, c.min-gone.ensures, c.from.ensures) in
    let left : held now.places.items c.behind-self-inside.result (now.count - c.min-gone.result) ≡ drop c.args.count (held now.places.items now.first now.count) =
    rw c.behind-self-inside.ensures.place (held_without now.places.items now.mask now.room now.first now.count c.self.invariant c.args.count c.min-gone.result fewer) in
    let steps = left ∙ ap (λ (log : Log). drop c.args.count log.steps) c.self.view_is in
    record { kept = λ i. record { room = (c.self.view_is i).room; steps = steps i } }
