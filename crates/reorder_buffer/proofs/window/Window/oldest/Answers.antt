use Rattle.std.proofs.Common.{rules, arith, ◌≡◌, ◌+◌, ◌<◌, ap, sym, Some, ◌∙◌, mod-eq_of_lt}
use Rattle.reorder_buffer.specs.Window.{position_of}
use Rattle.reorder_buffer.proofs.Ring.{slot_at}
use Rattle.reorder_buffer.proofs.window.Window.oldest.Goals as goal

pub returns-clause-oldest : goal.returns-clause-oldest
returns-clause-oldest c =
    let window = c.self.inside in
    let held : 0 < window.count = search rules in
    let below : window.first + 0 < window.held.len = search rules in
    let same : window.first ≡ window.first + 0 = omega arith in
    let is : window.first ≡ position_of window.held.len (window.first + 0) = same ∙ sym (mod-eq_of_lt below) in
    rw (← c.self.view_is) (ap Some c.slot.ensures.slot ∙ sym (slot_at window c.self.invariant window.first 0 c.index.result.now held is c.index.ensures))
