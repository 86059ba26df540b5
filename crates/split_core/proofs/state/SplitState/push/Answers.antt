use Rattle.std.proofs.Common.{sym, ◌∙◌}
use Rattle.split_core.proofs.Listing.{accepted, refused, is_accepted, is_refused, nothing_pushed, entry_pushed, entry_kept}
use Rattle.split_core.proofs.state.SplitState.push.Goals as goal

pub returns-then-is_ok : goal.returns-then-is_ok
returns-then-is_ok g c = record {
  pushed = λ s x sound reached h.
      let taken = sym c.is_ok.ensures.value ∙ c.if-is_ok.true in
      entry_pushed g.T.Timing.timed g.met.T.Timing.laws s x c.args.self.now h c.in-Some.entry c.in-Some.is c.try_push_back.new.self
      (is_accepted c.try_push_back.result _ _ taken c.try_push_back.ensures.variant)
      (accepted c.args.self.now.entries c.try_push_back.new.self c.in-Some.entry c.try_push_back.result taken c.try_push_back.ensures.ok);
}

pub returns-else-is_ok : goal.returns-else-is_ok
returns-else-is_ok g c = record {
  pushed = λ s x sound reached h.
      let full = sym c.is_ok.ensures.value ∙ c.if-is_ok.false in
      entry_kept g.T.Timing.timed g.met.T.Timing.laws s x c.args.self.now h c.in-Some.entry c.in-Some.is c.try_push_back.new.self
      (is_refused c.try_push_back.result _ _ full c.try_push_back.ensures.variant)
      (refused c.args.self.now.entries c.try_push_back.new.self c.in-Some.entry c.try_push_back.result full c.try_push_back.ensures.err);
}

pub returns-in_default : goal.returns-in_default
returns-in_default g c = record { pushed = λ s x sound reached h. nothing_pushed g.T.Timing.timed g.met.T.Timing.laws s x c.args.self.now h c.in_default.is }
