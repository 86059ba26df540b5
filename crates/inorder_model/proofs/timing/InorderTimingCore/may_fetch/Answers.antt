use Rattle.std.proofs.Common.{◌==◌, ◌&&◌, ap, sym, ◌∙◌}
use Rattle.reorder_buffer.specs.Window.{Contents}
use Rattle.timing_side.specs.Slots.{waiting_count}
use Rattle.inorder_side.specs.Issue.{timing_inorder_may_fetch}
use Rattle.inorder_model.proofs.timing.InorderTimingCore.may_fetch.Goals as goal

pub returns-then-has_resumed : goal.returns-then-has_resumed
unfolding timing_inorder_may_fetch
returns-then-has_resumed c = record {
  may = λ s l h.
      let resumed = sym c.if-has_resumed.true ∙ c.has_resumed.ensures.resumed s l.timing h.core in
      let waits = c.waiting.ensures.count ∙ ap (λ (f : Contents). waiting_count f.slots) c.flight.ensures.flight ∙ ap waiting_count h.core.slots in
      λ i. resumed i && (waits i == 0);
}

pub returns-else-has_resumed : goal.returns-else-has_resumed
unfolding timing_inorder_may_fetch
returns-else-has_resumed c = record {
  may = λ s l h.
      let resumed = sym c.if-has_resumed.false ∙ c.has_resumed.ensures.resumed s l.timing h.core in
      c.if-has_resumed.false ∙ (λ i. resumed i && (waiting_count l.timing.slots == 0));
}
