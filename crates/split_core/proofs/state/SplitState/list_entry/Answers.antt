use Rattle.mono_model.specs.Split as split
use Rattle.split_core.proofs.OnDemand.{plays_none, plays_event}
use Rattle.split_core.proofs.state.SplitState.list_entry.Goals as goal

pub returns-then-is_empty : goal.returns-then-is_empty
returns-then-is_empty g c = record {
  plays = plays_event g.T.Timing.timed g.met.T.Timing.laws split.compute c.args.self.now c.compute.new.self c.push.new.self c.compute.ensures.computed
      (plays_event g.T.Timing.timed g.met.T.Timing.laws split.push c.compute.new.self c.push.new.self c.push.new.self c.push.ensures.pushed (plays_none g.T.Timing.timed g.met.T.Timing.laws c.push.new.self));
}

pub returns-else-is_empty : goal.returns-else-is_empty
returns-else-is_empty g c = record { plays = plays_none g.T.Timing.timed g.met.T.Timing.laws c.args.self.now }
