use Rattle.std.proofs.Common.{not, ap, ◌∙◌}
use Rattle.split_core.proofs.Ticking.{order_in_hand, stepped}
use Rattle.split_core.proofs.state.SplitState.tick.Goals as goal

pub returns-then-is_none : goal.returns-then-is_none
returns-then-is_none g c = record {
  stepped = λ s x sound reached h. stepped g.T.Timing.timed g.met.T.Timing.laws s x c.args.self.now reached h (ap not (c.is_none.ensures ∙ ap not c.if-is_none.true)) c.step.new.self c.step.result
      (c.step.ensures.made s x.steps sound h.time) c.order-self.result c.order-self.ensures.told;
}

pub returns-else-is_none : goal.returns-else-is_none
returns-else-is_none g c = record {
  stepped = λ s x sound reached h. order_in_hand g.T.Timing.timed g.met.T.Timing.laws s x c.args.self.now reached h (ap not (c.is_none.ensures ∙ ap not c.if-is_none.false));
}
