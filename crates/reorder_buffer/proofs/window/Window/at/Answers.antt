use Rattle.std.proofs.Common.{rules, ◌≡◌, ◌+◌, ◌<◌, ap, sym, Some, ◌∙◌}
use Rattle.reorder_buffer.specs.Window.{position_of}
use Rattle.reorder_buffer.proofs.Ring.{slot_at}
use Rattle.reorder_buffer.proofs.window.Window.at.Goals as goal

pub returns : goal.returns
returns c =
    let window = c.self.inside in
    let position = c.position_behind-position.result in
    let held = c.index-held.result.now in
    let slot = c.slot.result in
    let inside : c.args.place < window.count = search rules in
    let below : position < window.held.len = search rules in
    let is : position ≡ position_of window.held.len (window.first + c.args.place) = search rules in
    let there = slot_at window c.self.invariant position c.args.place held inside is c.index-held.ensures ∙ ap Some (sym c.slot.ensures.slot) in
    record {
      slot = rw (← c.self.view_is) there;
      index = rw (← c.self.view_is, c.slot.ensures.slot) (search rules);
      below = search rules;
    }
