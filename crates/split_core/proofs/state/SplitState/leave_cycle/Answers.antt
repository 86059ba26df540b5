use Rattle.mono_model.specs.Split.{tick}
use Rattle.split_core.proofs.OnDemand.{plays_on, plays_event, plays_none}
use Rattle.split_core.proofs.InCycle.{out_any}
use Rattle.split_core.proofs.state.SplitState.leave_cycle.Goals as goal

pub returns-then-play_in_cycle : goal.returns-then-play_in_cycle
returns-then-play_in_cycle g c = record { plays = c.play_in_cycle.ensures.plays; out = c.play_in_cycle.ensures.out c.if-play_in_cycle.true }

pub returns : goal.returns
returns g c = record {
  plays = plays_on g.T.Timing.timed g.met.T.Timing.laws c.args.self.now c.play_in_cycle.new.self c.tick.new.self c.play_in_cycle.ensures.plays
      (plays_event g.T.Timing.timed g.met.T.Timing.laws tick c.play_in_cycle.new.self c.tick.new.self c.tick.new.self c.tick.ensures.stepped (plays_none g.T.Timing.timed g.met.T.Timing.laws c.tick.new.self));
  out = λ s from sound starts i.
      out_any g.T.Timing.timed g.met.T.Timing.laws s sound from starts c.play_in_cycle.new.self c.tick.new.self c.tick.ensures.stepped c.play_in_cycle.ensures.clear.hand
      (c.play_in_cycle.ensures.stays c.if-play_in_cycle.false s from sound starts i);
}
