use Rattle.std.proofs.Common.{rules, ◌≡◌, ◌<◌, ◌∙◌, ap, length}
use Rattle.reorder_buffer.specs.Window.{Contents, position_of, room_of}
use Rattle.reorder_buffer.proofs.Consecutive.{free_number}
use Rattle.reorder_buffer.proofs.Ring.{slots_of, room_is}
use Rattle.reorder_buffer.proofs.window.Window.free_position.Goals as goal

pub returns : goal.returns
returns c =
    let window = c.self.inside in
    let now = c.args.self.now in
    let kept = c.self.invariant in
    let position = c.position_in.result in
    let same : slots_of window ≡ now.slots = ap (λ (w : Contents). w.slots) c.self.view_is in
    let room : window.held.len ≡ room_of now.capacity = rw (← c.self.view_is) (room_is window kept) in
    let more : length now.slots < window.held.len = search rules in
    let below : position < window.held.len = search rules in
    let is : position ≡ position_of window.held.len c.args.number = search rules in
    let free = free_number window.held.len c.args.number now.slots (rw same at kept.ring.consecutive) c.requires.next more in
    record {
      position = rw (← room) is;
      below = rw (← room) below;
      free = rw (← room) (λ k d within taken. free k d within (taken ∙ is));
    }
