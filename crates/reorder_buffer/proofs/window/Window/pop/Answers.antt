use Rattle.std.proofs.Common.{rules, ◌≡◌, ◌+◌, ◌<◌}
use Rattle.reorder_buffer.specs.Window.{position_of}
use Rattle.reorder_buffer.proofs.Ring.{popped, still_popped}
use Rattle.reorder_buffer.proofs.window.Window.pop.Goals as goal

pub invariant_of-self : goal.invariant_of-self
invariant_of-self c =
    let window = c.self.inside in
    let next = c.position_behind-self-inside.result in
    let some : 0 < window.count = search rules in
    let is : next ≡ position_of window.held.len (window.first + 1) = search rules in
    let below : next < window.held.len = search rules in
    still_popped window c.self.invariant next some is below

pub returns : goal.returns
returns c =
    let window = c.self.inside in
    let next = c.position_behind-self-inside.result in
    let some : 0 < window.count = search rules in
    let is : next ≡ position_of window.held.len (window.first + 1) = search rules in
    let rest = popped window c.self.invariant next some is in
    rw (← c.self.view_is, rest) (search rules)
