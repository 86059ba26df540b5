use Rattle.std.proofs.Common.{not, ap, ◌∙◌}
use Rattle.split_core.proofs.Standing.{position_small, epoch_small}
use Rattle.split_core.proofs.Computing.{keeps_computed, computed_stands}
use Rattle.split_core.proofs.state.SplitState.compute.Goals as goal

pub produce-self-requires-clause-position : goal.produce-self-requires-clause-position
produce-self-requires-clause-position g c = position_small g.T.Timing.timed g.met.T.Timing.laws c.args.self.now c.requires.standing

pub produce-self-requires-clause-epoch : goal.produce-self-requires-clause-epoch
produce-self-requires-clause-epoch g c = epoch_small g.T.Timing.timed g.met.T.Timing.laws c.args.self.now c.requires.standing

pub returns-then-is_none : goal.returns-then-is_none
returns-then-is_none g c = record {
  computed = λ s x sound reached h. computed_stands g.T.Timing.timed g.met.T.Timing.laws s x c.args.self.now sound reached h c.produce-self.new.self (ap not (c.is_none.ensures ∙ ap not c.if-is_none.true)) c.produce-self.result
      c.produce-self.ensures.produced c.produce-self.ensures.moved c.produce-self.ensures.none c.produce-self.ensures.same;
}

pub returns-else-is_none : goal.returns-else-is_none
returns-else-is_none g c = record {
  computed = λ s x sound reached h. keeps_computed g.T.Timing.timed g.met.T.Timing.laws s x c.args.self.now sound reached h (ap not (c.is_none.ensures ∙ ap not c.if-is_none.false));
}
