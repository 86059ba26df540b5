use Rattle.std.proofs.Common.{◌≡◌, ◌∙◌, ℕ, List, nat_lt, ap, sym, arith}
use Rattle.std.proofs.lemmas.List.{drop_all}
use Rattle.reorder_buffer.specs.declared.slot.Slot.{Slot}
use Rattle.inorder_side.specs.Timing.{done_count}
use Rattle.cycle_watch.proofs.Showing.{done_here, done_later}
use Rattle.cycle_watch.proofs.watched.has_done_after.Goals as goal

pub returns-then-is_done : goal.returns-then-is_done
returns-then-is_done c =
    let slots = c.args.flight.now.slots in
    let found = done_here slots c.loop-younger.younger c.slot_at.result c.slot_at.ensures.slot (sym c.is_done.ensures.done ∙ c.if-is_done.true) in
    record { done = sym (ap (λ (n : ℕ). nat_lt 0 n) c.loop-younger.invariant ∙ found) }

pub loop-younger-preserved : goal.loop-younger-preserved
loop-younger-preserved c =
    let slots = c.args.flight.now.slots in
    c.loop-younger.invariant ∙ done_later slots c.loop-younger.younger c.slot_at.result c.slot_at.ensures.slot (sym c.is_done.ensures.done ∙ c.if-is_done.false)

pub returns : goal.returns
returns c =
    let slots = c.args.flight.now.slots in
    let none = drop_all c.loop-younger.younger slots (omega arith) in
    record { done = sym (ap (λ (n : ℕ). nat_lt 0 n) (c.loop-younger.invariant ∙ ap (λ (l : List Slot). done_count l) none)) }
