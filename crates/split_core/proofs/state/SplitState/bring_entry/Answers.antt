use Rattle.mono_model.specs.Split as split
use Rattle.split_core.proofs.OnDemand.{plays_none, plays_event, plays_on, plays_standing}
use Rattle.split_core.proofs.state.SplitState.bring_entry.Goals as goal

pub take-requires : goal.take-requires
take-requires g c = record { standing = plays_standing g.T.Timing.timed g.met.T.Timing.laws c.args.self.now c.list_entry.new.self c.requires.standing c.list_entry.ensures.plays }

pub returns-then-wants : goal.returns-then-wants
returns-then-wants g c = record {
  plays = plays_on g.T.Timing.timed g.met.T.Timing.laws c.args.self.now c.list_entry.new.self c.take.new.self c.list_entry.ensures.plays
      (plays_event g.T.Timing.timed g.met.T.Timing.laws split.take c.list_entry.new.self c.take.new.self c.take.new.self c.take.ensures.taken (plays_none g.T.Timing.timed g.met.T.Timing.laws c.take.new.self));
}

pub returns-else-wants : goal.returns-else-wants
returns-else-wants g c = record { plays = plays_none g.T.Timing.timed g.met.T.Timing.laws c.args.self.now }
