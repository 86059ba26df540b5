use Rattle.std.proofs.Common.{rules, ◌≡◌, ◌+◌, ◌<◌, refl}
use Rattle.reorder_buffer.specs.Held.{slot_in}
use Rattle.reorder_buffer.specs.Window.{position_of}
use Rattle.reorder_buffer.proofs.Ring.{slot_at, marked, still_marked}
use Rattle.reorder_buffer.proofs.window.Window.mark.Goals as goal

pub invariant_of-self : goal.invariant_of-self
invariant_of-self c =
    let window = c.self.inside in
    let position = c.position_behind-position.result in
    let held = c.index_mut.result.now in
    let inside : c.args.place < window.count = search rules in
    let below : position < window.held.len = search rules in
    let is : position ≡ position_of window.held.len (window.first + c.args.place) = search rules in
    let there = slot_at window c.self.invariant position c.args.place held inside is c.index_mut.ensures.value in
    still_marked window c.self.invariant position c.args.place (slot_in held) (record held { state = c.args.state }) inside is there refl

pub returns : goal.returns
returns c =
    let window = c.self.inside in
    let position = c.position_behind-position.result in
    let held = c.index_mut.result.now in
    let inside : c.args.place < window.count = search rules in
    let is : position ≡ position_of window.held.len (window.first + c.args.place) = search rules in
    let there = slot_at window c.self.invariant position c.args.place held inside is c.index_mut.ensures.value in
    let now = marked window c.self.invariant position c.args.place (record held { state = c.args.state }) inside is in
    rw (← c.self.view_is, there, now) (search rules)
