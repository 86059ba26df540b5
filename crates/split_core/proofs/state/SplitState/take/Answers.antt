use Rattle.std.proofs.Common.{sym, ◌∙◌}
use Rattle.split_core.proofs.Taking.{is_right, wants_none, nothing_taken, entry_taken}
use Rattle.split_core.proofs.state.SplitState.take.Goals as goal

pub take-requires-clause-right : goal.take-requires-clause-right
take-requires-clause-right g c = is_right g.T.Timing.timed g.met.T.Timing.laws c.args.self.now c.in-Some.entry c.requires.standing (sym c.pop_front.ensures.value ∙ c.in-Some.is)
    (λ s k stands. sym c.if-wants.true ∙ c.wants.ensures.needs s k stands)

pub returns-in-Some : goal.returns-in-Some
returns-in-Some g c = record {
  taken = λ s x sound reached h. entry_taken g.T.Timing.timed g.met.T.Timing.laws s x c.args.self.now reached h c.pop_front.new.self c.pop_front.ensures.items sound c.in-Some.entry (sym c.pop_front.ensures.value ∙ c.in-Some.is)
      (λ s k stands. sym c.if-wants.true ∙ c.wants.ensures.needs s k stands) c.take.new.self c.take.result c.take.ensures.stands c.take.ensures.used c.take.ensures.dropped c.take.ensures.by_epoch;
}

pub returns-in_default : goal.returns-in_default
returns-in_default g c = record {
  taken = λ s x sound reached h. nothing_taken g.T.Timing.timed g.met.T.Timing.laws s x c.args.self.now reached h c.pop_front.new.self c.pop_front.ensures.items (sym c.pop_front.ensures.value ∙ c.in_default.is);
}

pub returns-else-wants : goal.returns-else-wants
returns-else-wants g c = record {
  taken = λ s x sound reached h. wants_none g.T.Timing.timed g.met.T.Timing.laws s x c.args.self.now reached h (λ s k stands. sym c.if-wants.false ∙ c.wants.ensures.needs s k stands);
}
