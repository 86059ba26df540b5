use Rattle.std.proofs.Common.{sym, ◌∙◌}
use Rattle.split_core.proofs.OnDemand.{demand_start, demand_more}
use Rattle.split_core.proofs.InCycle.{back_in}
use Rattle.split_core.proofs.state.SplitState.play_in_cycle.Goals as goal

pub loop-init : goal.loop-init
loop-init g c = record {
  far = demand_start g.T.Timing.timed g.met.T.Timing.laws c.args.self.now c.requires.standing;
  clear = c.requires.clear;
  inside = λ s from sound starts i. i;
}

pub play_on_in_cycle-requires : goal.play_on_in_cycle-requires
play_on_in_cycle-requires g c = record { standing = c.loop.invariant.far.standing; clear = c.loop.invariant.clear }

pub loop-preserved : goal.loop-preserved
loop-preserved g c = record {
  far = demand_more g.T.Timing.timed g.met.T.Timing.laws c.args.self.now c.loop.self c.play_on_in_cycle.new.self c.loop.invariant.far c.play_on_in_cycle.ensures.plays;
  clear = c.play_on_in_cycle.ensures.clear;
  inside = λ s from sound starts i.
      back_in g.T.Timing.timed g.met.T.Timing.laws s sound from starts c.play_on_in_cycle.new.self (λ k h. sym (c.at_boundary.ensures.boundary s k h) ∙ c.if-at_boundary.false)
      (c.play_on_in_cycle.ensures.out s from sound starts (c.loop.invariant.inside s from sound starts i));
}

pub returns-then-at_boundary : goal.returns-then-at_boundary
returns-then-at_boundary g c = record {
  plays = (demand_more g.T.Timing.timed g.met.T.Timing.laws c.args.self.now c.loop.self c.play_on_in_cycle.new.self c.loop.invariant.far c.play_on_in_cycle.ensures.plays).plays;
  out = λ is s from sound starts i. c.play_on_in_cycle.ensures.out s from sound starts (c.loop.invariant.inside s from sound starts i);
  stays = λ is. cc;
  clear = c.play_on_in_cycle.ensures.clear;
}

pub returns : goal.returns
returns g c = record { plays = c.loop.invariant.far.plays; out = λ is. cc; stays = λ is. c.loop.invariant.inside; clear = c.loop.invariant.clear }
