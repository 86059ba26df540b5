use Rattle.std.proofs.Common.{ap}
use Rattle.side_laws.specs.Along.{MayObey}
use Rattle.time_model.specs.Turns.{order_told}
use Rattle.split_core.specs.Plays.{Plays}
use Rattle.split_core.proofs.OnDemand.{plays_on, plays_standing}
use Rattle.split_core.proofs.Clear.{clear_at, as_run, run_silent, run_may, run_obeyed, untold_or_over}
use Rattle.split_core.proofs.InCycle.{back_in, out_obeyed, out_silent, wants_off}
use Rattle.split_core.proofs.state.SplitState.play_on_in_cycle.Goals as goal

pub hand_over_wanted-requires : goal.hand_over_wanted-requires
hand_over_wanted-requires g c = record {
  standing = plays_standing g.T.Timing.timed g.met.T.Timing.laws c.args.self.now (record c.args.self.now { time = c.run_in_cycle.new.self }) c.requires.standing (run_silent g.T.Timing.timed g.met.T.Timing.laws c.args.self.now c.requires.clear c.run_in_cycle.new.self c.run_in_cycle.result (as_run g.T.Timing.timed c.args.self.now.time c.run_in_cycle.new.self c.run_in_cycle.result c.run_in_cycle.ensures.made) (ap order_told c.in-Want.is));
  clear = clear_at c.args.self.now c.requires.clear c.args.self.now.func c.run_in_cycle.new.self;
  wants = c.run_in_cycle.ensures.waiting c.in-Want.is;
}

pub obey-requires : goal.obey-requires
obey-requires g c =
    let may : MayObey c.in-Ordered.order c.args.self.now.func = run_may g.T.Timing.timed g.met.T.Timing.laws c.args.self.now c.requires.clear c.run_in_cycle.new.self c.run_in_cycle.result (as_run g.T.Timing.timed c.args.self.now.time c.run_in_cycle.new.self c.run_in_cycle.result c.run_in_cycle.ensures.made) c.in-Ordered.order c.in-Ordered.is c.requires.standing in
    record {
      reach = may.reach;
      from = may.from;
      room = may.room;
      number = may.number;
      position = may.position;
      epoch = may.epoch;
      within = may.within;
    }

pub returns-in-Want : goal.returns-in-Want
returns-in-Want g c = record {
  plays = plays_on g.T.Timing.timed g.met.T.Timing.laws c.args.self.now (record c.args.self.now { time = c.run_in_cycle.new.self }) c.hand_over_wanted.new.self (run_silent g.T.Timing.timed g.met.T.Timing.laws c.args.self.now c.requires.clear c.run_in_cycle.new.self c.run_in_cycle.result (as_run g.T.Timing.timed c.args.self.now.time c.run_in_cycle.new.self c.run_in_cycle.result c.run_in_cycle.ensures.made) (ap order_told c.in-Want.is)) c.hand_over_wanted.ensures.plays;
  out = λ s from sound starts i.
      let mid = (record c.args.self.now { time = c.run_in_cycle.new.self }) in
      c.hand_over_wanted.ensures.out s from sound starts
      (back_in g.T.Timing.timed g.met.T.Timing.laws s sound from starts mid (wants_off g.T.Timing.timed g.met.T.Timing.laws s sound from starts mid (c.run_in_cycle.ensures.waiting c.in-Want.is))
      (out_silent g.T.Timing.timed g.met.T.Timing.laws s sound from starts c.args.self.now c.requires.clear c.run_in_cycle.new.self c.run_in_cycle.result c.run_in_cycle.ensures.made (ap order_told c.in-Want.is) i));
  clear = c.hand_over_wanted.ensures.clear;
}

pub returns-in-Ordered : goal.returns-in-Ordered
returns-in-Ordered g c = record {
  plays = run_obeyed g.T.Timing.timed g.met.T.Timing.laws c.args.self.now c.requires.clear c.run_in_cycle.new.self c.run_in_cycle.result (as_run g.T.Timing.timed c.args.self.now.time c.run_in_cycle.new.self c.run_in_cycle.result c.run_in_cycle.ensures.made) c.in-Ordered.order c.in-Ordered.is c.obey.new.self c.obey.ensures.stands c.obey.ensures.moved;
  out = λ s from sound starts i.
      out_obeyed g.T.Timing.timed g.met.T.Timing.laws s sound from starts c.args.self.now c.requires.clear c.run_in_cycle.new.self c.run_in_cycle.result c.run_in_cycle.ensures.made c.in-Ordered.order c.in-Ordered.is c.obey.new.self c.obey.ensures.stands c.obey.ensures.moved i;
  clear = clear_at c.args.self.now c.requires.clear c.obey.new.self c.run_in_cycle.new.self;
}

pub returns-in-Moved : goal.returns-in-Moved
returns-in-Moved g c = record {
  plays = run_silent g.T.Timing.timed g.met.T.Timing.laws c.args.self.now c.requires.clear c.run_in_cycle.new.self c.run_in_cycle.result (as_run g.T.Timing.timed c.args.self.now.time c.run_in_cycle.new.self c.run_in_cycle.result c.run_in_cycle.ensures.made) (untold_or_over c.run_in_cycle.result c.in-Moved.is);
  out = λ s from sound starts i. out_silent g.T.Timing.timed g.met.T.Timing.laws s sound from starts c.args.self.now c.requires.clear c.run_in_cycle.new.self c.run_in_cycle.result c.run_in_cycle.ensures.made (untold_or_over c.run_in_cycle.result c.in-Moved.is) i;
  clear = clear_at c.args.self.now c.requires.clear c.args.self.now.func c.run_in_cycle.new.self;
}
