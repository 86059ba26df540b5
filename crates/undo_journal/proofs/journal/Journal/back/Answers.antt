use Rattle.std.proofs.Common.{◌-◌, arith, ap, sym, ◌∙◌, length}
use mathlib.Core.Bool.{true≢false}
use Rattle.undo_journal.proofs.Ring.{fewer_kept, held_newest, length_log}
use Rattle.undo_journal.proofs.journal.Journal.back.Goals as goal

pub invariant_of-self : goal.invariant_of-self
invariant_of-self c =
    let now = c.self.inside in
    fewer_kept now.places.items now.mask now.room now.first now.count c.self.invariant (now.count - 1) (omega arith)

pub returns-clause-empty : goal.returns-clause-empty
returns-clause-empty c =
    let now = c.self.inside in
    let long = length_log now.places.items now.mask now.room now.first now.count c.self.invariant c.args.self.now c.self.view_is in
    (λ e. absurd (true≢false e), λ e. absurd (c.if-self-eq0.false (sym long ∙ ap length e)))

-- what was held is what is left, and the newest step
pub returns-clause-newest : goal.returns-clause-newest
returns-clause-newest c =
    let now = c.self.inside in
    let last = held_newest now.places.items now.mask now.room now.first now.count c.self.invariant c.behind-place.result c.index.result.now (omega (arith, c.if-self-eq0.false)) c.behind-place.ensures.place c.index.ensures in
    sym c.self.view_is ∙ λ i. record { room = now.room; steps = last i }
