use Rattle.std.proofs.Common.{sym, ◌∙◌}
use Rattle.split_core.proofs.Listing.{accepted, refused, is_accepted, is_refused, nothing_sent, order_sent, order_kept}
use Rattle.split_core.proofs.state.SplitState.send.Goals as goal

pub returns-then-is_ok : goal.returns-then-is_ok
returns-then-is_ok g c = record {
  sent = λ s x sound reached h.
      let taken = sym c.is_ok.ensures.value ∙ c.if-is_ok.true in
      order_sent g.T.Timing.timed g.met.T.Timing.laws s x c.args.self.now h c.in-Some.order c.in-Some.is c.try_push_back.new.self
      (is_accepted c.try_push_back.result _ _ taken c.try_push_back.ensures.variant)
      (accepted c.args.self.now.listed_orders c.try_push_back.new.self c.in-Some.order c.try_push_back.result taken c.try_push_back.ensures.ok);
}

pub returns-else-is_ok : goal.returns-else-is_ok
returns-else-is_ok g c = record {
  sent = λ s x sound reached h.
      let full = sym c.is_ok.ensures.value ∙ c.if-is_ok.false in
      order_kept g.T.Timing.timed g.met.T.Timing.laws s x c.args.self.now h c.in-Some.order c.in-Some.is c.try_push_back.new.self
      (is_refused c.try_push_back.result _ _ full c.try_push_back.ensures.variant)
      (refused c.args.self.now.listed_orders c.try_push_back.new.self c.in-Some.order c.try_push_back.result full c.try_push_back.ensures.err);
}

pub returns-in_default : goal.returns-in_default
returns-in_default g c = record { sent = λ s x sound reached h. nothing_sent g.T.Timing.timed g.met.T.Timing.laws s x c.args.self.now h c.in_default.is }
