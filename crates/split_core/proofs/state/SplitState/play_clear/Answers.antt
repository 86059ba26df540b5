use Rattle.std.proofs.Common.{◌≡◌, None, ap, sym, subst}
use Rattle.side_laws.specs.Along.{MayObey}
use Rattle.time_model.specs.Turns.{order_told}
use Rattle.split_core.specs.Plays.{IsClear}
use Rattle.split_core.proofs.OnDemand.{OnDemand, demand_start, demand_more}
use Rattle.split_core.proofs.Clear.{clear_at, untold, run_silent, run_may, run_obeyed}
use Rattle.split_core.proofs.state.SplitState.play_clear.Goals as goal
use Rattle.split_core.proofs.state.SplitState.play_clear.Goals.{in-Want, in-Ordered, in-Moved}

pub loop-init : goal.loop-init
loop-init g c = record { far = demand_start g.T.Timing.timed g.met.T.Timing.laws c.args.self.now c.requires.standing; clear = c.requires.clear }

pub returns-in-Halted : goal.returns-in-Halted
returns-in-Halted g c = record {
  plays = (demand_more g.T.Timing.timed g.met.T.Timing.laws c.args.self.now c.loop.self (record c.loop.self { time = c.run.new.self }) c.loop.invariant.far
      (run_silent g.T.Timing.timed g.met.T.Timing.laws c.loop.self c.loop.invariant.clear c.run.new.self c.run.result c.run.ensures.made (ap order_told c.in-Halted.is))).plays;
}

pub hand_over_wanted-requires : goal.hand_over_wanted-requires
hand_over_wanted-requires g c = record {
  standing = (demand_more g.T.Timing.timed g.met.T.Timing.laws c.args.self.now c.loop.self (record c.loop.self { time = c.run.new.self }) c.loop.invariant.far
      (run_silent g.T.Timing.timed g.met.T.Timing.laws c.loop.self c.loop.invariant.clear c.run.new.self c.run.result c.run.ensures.made (ap order_told c.in-Want.is))).standing;
  clear = clear_at c.loop.self c.loop.invariant.clear c.loop.self.func c.run.new.self;
  wants = c.run.ensures.waiting c.in-Want.is;
}

pub obey-requires : goal.obey-requires
obey-requires g c =
    let may : MayObey c.in-Ordered.order c.loop.self.func =
    run_may g.T.Timing.timed g.met.T.Timing.laws c.loop.self c.loop.invariant.clear c.run.new.self c.run.result c.run.ensures.made c.in-Ordered.order c.in-Ordered.is c.loop.invariant.far.standing in
    record {
      reach = may.reach;
      from = may.from;
      room = may.room;
      number = may.number;
      position = may.position;
      epoch = may.epoch;
      within = may.within;
    }

pub loop-preserved : goal.loop-preserved
loop-preserved g c =
    let silent : order_told c.run.result ≡ None → OnDemand g.T.Timing.timed c.args.self.now (record c.loop.self { time = c.run.new.self }) =
    λ none. demand_more g.T.Timing.timed g.met.T.Timing.laws c.args.self.now c.loop.self (record c.loop.self { time = c.run.new.self }) c.loop.invariant.far
    (run_silent g.T.Timing.timed g.met.T.Timing.laws c.loop.self c.loop.invariant.clear c.run.new.self c.run.result c.run.ensures.made none) in
    record {
      far = elim c.match-run.branch [
        | in-Want w ↦ subst (OnDemand g.T.Timing.timed c.args.self.now) (sym w.self-is)
            (demand_more g.T.Timing.timed g.met.T.Timing.laws c.args.self.now (record c.loop.self { time = c.run.new.self }) w.hand_over_wanted.new.self (silent (ap order_told w.in-Want.is)) w.hand_over_wanted.ensures.plays)
        | in-Ordered w ↦ subst (OnDemand g.T.Timing.timed c.args.self.now) (sym w.self-is)
            (demand_more g.T.Timing.timed g.met.T.Timing.laws c.args.self.now c.loop.self (record c.loop.self { func = w.obey.new.self; time = c.run.new.self }) c.loop.invariant.far
            (run_obeyed g.T.Timing.timed g.met.T.Timing.laws c.loop.self c.loop.invariant.clear c.run.new.self c.run.result c.run.ensures.made w.in-Ordered.order w.in-Ordered.is w.obey.new.self w.obey.ensures.stands w.obey.ensures.moved))
        | in-Moved w ↦ subst (OnDemand g.T.Timing.timed c.args.self.now) (sym w.self-is) (silent (untold c.run.result w.in-Moved.is))
      ];
      clear = elim c.match-run.branch [
        | in-Want w ↦ subst IsClear (sym w.self-is) w.hand_over_wanted.ensures.clear
        | in-Ordered w ↦ subst IsClear (sym w.self-is) (clear_at c.loop.self c.loop.invariant.clear w.obey.new.self c.run.new.self)
        | in-Moved w ↦ subst IsClear (sym w.self-is) (clear_at c.loop.self c.loop.invariant.clear c.loop.self.func c.run.new.self)
      ];
    }
