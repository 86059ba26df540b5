use Rattle.std.proofs.Common.{rules, ◌≡◌, ◌≤◌, length, take, ap, sym, ◌∙◌}
use Rattle.reorder_buffer.specs.Window.{Contents, below_number, ring_slots}
use Rattle.reorder_buffer.proofs.Consecutive.{take_below}
use Rattle.reorder_buffer.proofs.Ring.{items_of, slots_of, ring-cut, still_cut}
use Rattle.reorder_buffer.proofs.window.Window.cut_from.Goals as goal

pub invariant_of-self : goal.invariant_of-self
invariant_of-self c =
    let less : c.count_below-kept.result ≤ c.self.inside.count = search rules in
    still_cut c.self.inside c.count_below-kept.result c.self.invariant less

pub returns-clause-kept : goal.returns-clause-kept
returns-clause-kept c =
    let window = c.self.inside in
    let kept = c.count_below-kept.result in
    let less : kept ≤ window.count = search rules in
    let below : ring_slots (items_of window) window.first kept ≡ below_number c.args.number (slots_of window) =
    ring-cut (items_of window) window.first window.count kept less
    ∙ ap (λ k. take k (slots_of window)) (c.count_below-kept.ensures.count ∙ ap (λ (w : Contents). length (below_number c.args.number w.slots)) (sym c.self.view_is))
    ∙ take_below c.args.number (slots_of window) c.self.invariant.ring.consecutive in
    rw (← c.self.view_is, below) (search rules)
