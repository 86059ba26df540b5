use Rattle.std.proofs.Common.{rules, ◌≡◌, ◌+◌, ◌<◌}
use Rattle.reorder_buffer.specs.Window.{position_of}
use Rattle.reorder_buffer.proofs.Ring.{room_is, position_at, own_positions}
use Rattle.reorder_buffer.proofs.window.Window.position.Goals as goal

pub returns : goal.returns
returns c =
    let window = c.self.inside in
    let kept = c.self.invariant in
    let position = c.position_behind.result in
    let below : position < window.held.len = search rules in
    let is : position ≡ position_of window.held.len (window.first + c.args.place) = search rules in
    record {
      position = rw (← c.self.view_is, ← room_is window kept) (position_at window kept position c.args.place is);
      below = rw (← c.self.view_is, ← room_is window kept) below;
      apart = rw (← c.self.view_is, ← room_is window kept) (own_positions window kept);
    }
