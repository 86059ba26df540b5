use Rattle.std.proofs.Common.{◌≡◌, ap, sym, arith}
use Rattle.reorder_buffer.specs.Window.{Contents}
use Rattle.reorder_buffer.proofs.Consecutive.{below_is_min}
use Rattle.reorder_buffer.proofs.Ring.{slots_of}
use Rattle.reorder_buffer.proofs.window.Window.count_below.Goals as goal

pub returns-in-Some-clause-count : goal.returns-in-Some-clause-count
returns-in-Some-clause-count c =
    let window = c.args.self.now in
    let same : slots_of c.self.inside ≡ window.slots = ap (λ (w : Contents). w.slots) c.self.view_is in
    let below = below_is_min c.args.number c.in-Some.oldest window.slots (sym c.in-Some.ensures.oldest) (rw same at c.self.invariant.ring.consecutive) in
    let held = rw same at c.self.invariant.ring.held in
    grind (arith, below, held)
