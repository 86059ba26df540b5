use Rattle.std.proofs.Common.{◌≡◌, ◌∙◌, ap, sym, subst, arith, IfSome, Any}
use Rattle.std.specs.Prelude.{slice_get}
use Rattle.reorder_buffer.specs.Window.{Contents}
use Rattle.in_flight.specs.Flight.{IsExecuting}
use Rattle.load_store_queue.specs.Queue.{Contents as Stores}
use Rattle.in_flight.specs.Step.{finished_in}
use Rattle.in_flight.proofs.Divisions.{division_counts}
use Rattle.in_flight.proofs.Stores.{store_held, finishes}
use Rattle.in_flight.proofs.Changes.{executes_at, finished_keeps}
use Rattle.in_flight.proofs.flight.InFlight.finish.Goals as goal

pub forget_division-requires : goal.forget_division-requires
forget_division-requires c =
    let window = c.self.inside.window in
    let slot = c.slot_at-position.result.1 in
    record { counted = omega (arith, c.self.invariant.dividing_is, division_counts window.slots c.args.place slot c.slot_at-position.ensures.slot) }

pub wake-requires : goal.wake-requires
wake-requires c =
    let window = c.self.inside.window in
    let slot = c.slot_at-position.result.1 in
    let there = subst (λ (w : Contents). IfSome (slice_get w.slots c.args.place) (λ s. IsExecuting s.state)) (sym c.self.view_is) c.requires.executing in
    let executes = rw c.slot_at-position.ensures.slot at there in
    record {
      issued = rw c.slot_at-position.ensures.position
          (executes_at window c.self.inside.stations c.args.place slot c.self.invariant.stations_are c.slot_at-position.ensures.apart c.slot_at-position.ensures.slot executes);
    }

pub finish_store-requires : goal.finish_store-requires
finish_store-requires c =
    let window = c.self.inside.window in
    let slot = c.slot_at-position.result.1 in
    record {
      held = λ stores. subst (λ (q : Stores). Any (λ store. store.number ≡ slot.number) q.stores) (sym c.self.invariant.stores_are)
          (store_held window.slots c.args.place slot c.slot_at-position.ensures.slot stores);
    }

pub invariant_of-self : goal.invariant_of-self
invariant_of-self c =
    let window = c.self.inside.window in
    let slot = c.slot_at-position.result.1 in
    let queue : Stores → Stores = λ q. record q { stores = finished_in slot q.stores } in
    let held = finishes window.slots c.args.place slot c.slot_at-position.ensures.consecutive c.slot_at-position.ensures.slot in
    let queued =
    c.finish_store.ensures.finished ∙ ap queue c.self.invariant.stores_are
    ∙ ap (λ stores. let now : Stores = record { capacity = window.capacity; stores = stores } in now) held
    in
    let keeps =
    finished_keeps window c.self.inside.stations c.self.inside.stores c.finish_store.new.stores c.self.inside.dividing c.args.place slot c.self.invariant
    c.slot_at-position.ensures.apart c.slot_at-position.ensures.slot queued
    in
    let marks = rw c.slot_at-position.ensures.slot at c.mark.ensures.marked in
    let wakes = rw (c.slot_at-position.ensures.position, c.is_some.ensures) at c.wake.ensures.woken in
    rw (marks, wakes, c.forget_division.ensures.forgotten) keeps
