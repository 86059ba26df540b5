use Rattle.std.proofs.Common.{ap, ◌∙◌}
use Rattle.reorder_buffer.specs.Window.{Contents}
use Rattle.inorder_model.proofs.Slots.{is_idle, idle_is, none_by}
use Rattle.inorder_model.proofs.timing.InorderTimingCore.is_idle.Goals as goal

pub returns : goal.returns
returns c = record {
  idle = none_by c.executing_place.result c.is_none.result c.is_none.ensures ∙ idle_is c.flight.result.now.slots c.executing_place.result c.executing_place.ensures.found c.executing_place.ensures.none
      ∙ ap (λ (f : Contents). is_idle f.slots) c.flight.ensures.flight;
}
