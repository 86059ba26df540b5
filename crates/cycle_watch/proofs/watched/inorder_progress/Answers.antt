use Rattle.std.proofs.Common.{◌≡◌, ◌∙◌, ◌+◌, ℕ, Option, ap, drop, sym}
use Rattle.std.proofs.lemmas.Option.{same_Some}
use Rattle.reorder_buffer.specs.declared.slot.Slot.{Slot}
use Rattle.inorder_side.specs.Timing.{done_count}
use Rattle.cycle_watch.specs.SeenIn.{inorder_slot_progress, slot_progress}
use Rattle.cycle_watch.proofs.Showing.{in_memory, not_in_memory}
use Rattle.cycle_watch.proofs.watched.inorder_progress.Goals as goal

pub returns-then-is_youngest_done : goal.returns-then-is_youngest_done
returns-then-is_youngest_done c = record {
  progress = λ slot o is.
      let younger = done_count (drop (c.args.place + 1) c.args.flight.now.slots) in
      in_memory c.in-Some.end younger slot.state o (sym (c.is_youngest_done.ensures.youngest slot is) ∙ c.if-is_youngest_done.true)
      ∙ ap (λ (m : Option ℕ). inorder_slot_progress m younger slot.state o) (sym c.in-Some.is);
}

pub returns-else-is_youngest_done : goal.returns-else-is_youngest_done
returns-else-is_youngest_done c = record {
  progress = λ slot o is.
      let younger = done_count (drop (c.args.place + 1) c.args.flight.now.slots) in
      c.progress_of-progress.ensures.progress o
      ∙ ap (λ (x : Slot). slot_progress x.state o) (same_Some c.slot_at.result slot (sym c.slot_at.ensures.slot ∙ is))
      ∙ not_in_memory c.in-Some.end younger slot.state o (sym (c.is_youngest_done.ensures.youngest slot is) ∙ c.if-is_youngest_done.false)
      ∙ ap (λ (m : Option ℕ). inorder_slot_progress m younger slot.state o) (sym c.in-Some.is);
}

pub returns-in-None : goal.returns-in-None
returns-in-None c = record {
  progress = λ slot o is.
      let younger = done_count (drop (c.args.place + 1) c.args.flight.now.slots) in
      c.progress_of-progress.ensures.progress o
      ∙ ap (λ (x : Slot). slot_progress x.state o) (same_Some c.slot_at.result slot (sym c.slot_at.ensures.slot ∙ is))
      ∙ ap (λ (m : Option ℕ). inorder_slot_progress m younger slot.state o) (sym c.in-None.is);
}
