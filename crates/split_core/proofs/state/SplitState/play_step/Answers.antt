use Rattle.mono_model.specs.Split as split
use Rattle.split_core.specs.Standing.{IsStandingOn}
use Rattle.split_core.proofs.Standing.{after_event}
use Rattle.split_core.proofs.OnDemand.{plays_none, plays_event, plays_on, plays_standing}
use Rattle.split_core.proofs.state.SplitState.play_step.Goals as goal

pub obey-requires : goal.obey-requires
obey-requires g c =
    let brought : IsStandingOn g.T.Timing.timed c.bring_entry.new.self = plays_standing g.T.Timing.timed g.met.T.Timing.laws c.args.self.now c.bring_entry.new.self c.requires.standing c.bring_entry.ensures.plays in
    let stepped : IsStandingOn g.T.Timing.timed c.tick.new.self = after_event g.T.Timing.timed g.met.T.Timing.laws split.tick c.bring_entry.new.self c.tick.new.self brought c.tick.ensures.stepped in
    record { standing = after_event g.T.Timing.timed g.met.T.Timing.laws split.send c.tick.new.self c.send.new.self stepped c.send.ensures.sent }

pub returns : goal.returns
returns g c = record {
  plays = plays_on g.T.Timing.timed g.met.T.Timing.laws c.args.self.now c.bring_entry.new.self c.obey.new.self c.bring_entry.ensures.plays
      (plays_event g.T.Timing.timed g.met.T.Timing.laws split.tick c.bring_entry.new.self c.tick.new.self c.obey.new.self c.tick.ensures.stepped
      (plays_event g.T.Timing.timed g.met.T.Timing.laws split.send c.tick.new.self c.send.new.self c.obey.new.self c.send.ensures.sent
      (plays_event g.T.Timing.timed g.met.T.Timing.laws split.obey c.send.new.self c.obey.new.self c.obey.new.self c.obey.ensures.obeyed (plays_none g.T.Timing.timed g.met.T.Timing.laws c.obey.new.self))));
}
