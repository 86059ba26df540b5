use Rattle.std.proofs.Common.{◌≡◌, sym, subst, arith, IfSome}
use Rattle.std.specs.Prelude.{slice_get}
use Rattle.reorder_buffer.specs.declared.slot.SlotState.TheVariants.{Waiting}
use Rattle.reorder_buffer.specs.Window.{Contents}
use Rattle.in_flight.proofs.Divisions.{divisions_within}
use Rattle.in_flight.proofs.Changes.{waits_at, begun_keeps}
use Rattle.in_flight.proofs.flight.InFlight.begin.Goals as goal

pub note_division-requires : goal.note_division-requires
note_division-requires c =
    let window = c.self.inside.window in
    record { room = omega (arith, c.self.invariant.limit, c.self.invariant.dividing_is, divisions_within window.slots, c.slot_at-position.ensures.room) }

pub issue-requires : goal.issue-requires
issue-requires c =
    let window = c.self.inside.window in
    let slot = c.slot_at-position.result.1 in
    let there = subst (λ (w : Contents). IfSome (slice_get w.slots c.args.place) (λ s. s.state ≡ Waiting)) (sym c.self.view_is) c.requires.waiting in
    let waits = rw c.slot_at-position.ensures.slot at there in
    record {
      waiting = rw c.slot_at-position.ensures.position
          (waits_at window c.self.inside.stations c.args.place slot c.self.invariant.stations_are c.slot_at-position.ensures.apart c.slot_at-position.ensures.slot waits);
    }

pub invariant_of-self : goal.invariant_of-self
invariant_of-self c =
    let window = c.self.inside.window in
    let slot = c.slot_at-position.result.1 in
    let there = subst (λ (w : Contents). IfSome (slice_get w.slots c.args.place) (λ s. s.state ≡ Waiting)) (sym c.self.view_is) c.requires.waiting in
    let waits = rw c.slot_at-position.ensures.slot at there in
    let keeps =
    begun_keeps window c.self.inside.stations c.self.inside.stores c.self.inside.dividing c.args.place c.args.until slot c.self.invariant c.slot_at-position.ensures.apart
    c.slot_at-position.ensures.slot waits
    in
    let marks = rw c.slot_at-position.ensures.slot at c.mark.ensures.marked in
    let issues = rw c.slot_at-position.ensures.position at c.issue.ensures.issued in
    rw (marks, issues, c.note_division.ensures.noted c.args.until) keeps
