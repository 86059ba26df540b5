use Rattle.std.proofs.Common.{◌↔◌, ap, ◌∙◌, subst, IsTrue}
use Rattle.reorder_buffer.specs.Window.{Contents}
use Rattle.load_store_queue.specs.Queue.{AreOlderDone, Contents as Stores}
use Rattle.timing_side.specs.Issue.{are_stores_done}
use Rattle.in_flight.specs.Flight.{older_at}
use Rattle.in_flight.proofs.Stores.{stores_done_at}
use Rattle.in_flight.proofs.flight.InFlight.stores_done.Goals as goal

pub returns : goal.returns
returns c =
    let window = c.self.inside.window in
    let slot = c.slot_at.result.1 in
    let asked = subst (λ (q : Stores). IsTrue c.older_done.result ↔ AreOlderDone slot.number q.stores) c.self.invariant.stores_are c.older_done.ensures.done in
    let at = stores_done_at window.slots c.args.place slot c.older_done.result c.slot_at.ensures.consecutive c.slot_at.ensures.slot asked in
    record { done = at ∙ ap (λ (w : Contents). are_stores_done (older_at w.slots c.args.place)) c.self.view_is }
