use Rattle.mono_model.specs.Split as split
use Rattle.split_core.specs.Standing.{IsStandingOn}
use Rattle.split_core.proofs.Standing.{after_event}
use Rattle.split_core.proofs.Playing.{round_stands}
use Rattle.split_core.proofs.state.SplitState.round.Goals as goal

pub compute-requires : goal.compute-requires
compute-requires g c = record { standing = after_event g.T.Timing.timed g.met.T.Timing.laws split.obey c.args.self.now c.obey.new.self c.requires.standing c.obey.ensures.obeyed }

pub take-requires : goal.take-requires
take-requires g c =
    let obeyed : IsStandingOn g.T.Timing.timed c.obey.new.self = after_event g.T.Timing.timed g.met.T.Timing.laws split.obey c.args.self.now c.obey.new.self c.requires.standing c.obey.ensures.obeyed in
    let computed : IsStandingOn g.T.Timing.timed c.compute.new.self = after_event g.T.Timing.timed g.met.T.Timing.laws split.compute c.obey.new.self c.compute.new.self obeyed c.compute.ensures.computed in
    record { standing = after_event g.T.Timing.timed g.met.T.Timing.laws split.push c.compute.new.self c.push.new.self computed c.push.ensures.pushed }

pub returns : goal.returns
returns g c = record {
  played = round_stands g.T.Timing.timed g.met.T.Timing.laws c.args.self.now c.obey.new.self c.compute.new.self c.push.new.self c.take.new.self c.tick_within_cycle.new.self c.send.new.self
      c.obey.ensures.obeyed c.compute.ensures.computed c.push.ensures.pushed c.take.ensures.taken c.tick_within_cycle.ensures.stepped c.send.ensures.sent;
}
