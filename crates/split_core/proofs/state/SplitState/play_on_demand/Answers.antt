use Rattle.split_core.proofs.OnDemand.{demand_start, demand_more, plays_on}
use Rattle.split_core.proofs.state.SplitState.play_on_demand.Goals as goal

pub loop-init : goal.loop-init
loop-init g c = demand_start g.T.Timing.timed g.met.T.Timing.laws c.args.self.now c.requires.standing

pub play_clear-requires : goal.play_clear-requires
play_clear-requires g c = record { standing = c.loop.invariant.standing; clear = c.is_clear.ensures.clear c.if-is_clear.true }

pub play_step-requires : goal.play_step-requires
play_step-requires g c = record { standing = c.loop.invariant.standing }

pub loop-preserved : goal.loop-preserved
loop-preserved g c = demand_more g.T.Timing.timed g.met.T.Timing.laws c.args.self.now c.loop.self c.play_step.new.self c.loop.invariant c.play_step.ensures.plays

pub returns-then-stopped : goal.returns-then-stopped
returns-then-stopped g c = record { plays = c.loop.invariant.plays }

pub returns-then-is_clear : goal.returns-then-is_clear
returns-then-is_clear g c = record { plays = plays_on g.T.Timing.timed g.met.T.Timing.laws c.args.self.now c.loop.self c.play_clear.new.self c.loop.invariant.plays c.play_clear.ensures.plays }

pub returns : goal.returns
returns g c = record { plays = c.loop.invariant.plays }
