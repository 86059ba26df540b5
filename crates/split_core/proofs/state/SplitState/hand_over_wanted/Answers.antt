use Rattle.std.proofs.Common.{◌≡◌, Bool, true, false, IfNone, sym, ◌∙◌, ap, subst}
use Rattle.trace_entry.specs.declared.Entry.{Entry}
use Rattle.func_model.specs.Walk.{entry_if}
use Rattle.side_laws.specs.Along.{MayObey}
use Rattle.time_model.specs.Turns.{order_told}
use Rattle.split_core.specs.Plays.{Plays}
use Rattle.split_core.proofs.OnDemand.{demand_start, demand_more}
use Rattle.split_core.proofs.Standing.{position_small, epoch_small}
use Rattle.split_core.proofs.Handing.{Made}
use Rattle.split_core.proofs.Clear.{clear_at, untold_or_over}
use Rattle.split_core.specs.InCycle.{IsOut}
use Rattle.split_core.proofs.InCycle.{back_in, moved_on, out_fed, out_fed_obeyed, wants_off}
use Rattle.split_core.proofs.Feeding.{fed_right, fed_own, fed_silent, fed_may, fed_obeyed}
use Rattle.split_core.proofs.state.SplitState.hand_over_wanted.Goals as goal

pub loop-init : goal.loop-init
loop-init g c = record { far = demand_start g.T.Timing.timed g.met.T.Timing.laws c.args.self.now c.requires.standing; clear = c.requires.clear; wants = c.requires.wants; inside = λ s from sound starts i. i }

pub produce_into-requires-clause-position : goal.produce_into-requires-clause-position
produce_into-requires-clause-position g c = position_small g.T.Timing.timed g.met.T.Timing.laws c.loop.self c.loop.invariant.far.standing

pub produce_into-requires-clause-epoch : goal.produce_into-requires-clause-epoch
produce_into-requires-clause-epoch g c = epoch_small g.T.Timing.timed g.met.T.Timing.laws c.loop.self c.loop.invariant.far.standing

pub feed_own-requires-clause-right : goal.feed_own-requires-clause-right
feed_own-requires-clause-right g c =
    let made : Made c.loop.self.func c.produce_into.new.self (entry_if c.produce_into.result c.produce_into.new.to) =
    record { produced = c.produce_into.ensures.produced; moved = c.produce_into.ensures.moved; none = c.produce_into.ensures.none; same = c.produce_into.ensures.same } in
    fed_right g.T.Timing.timed g.met.T.Timing.laws c.loop.self c.loop.invariant.clear c.produce_into.new.self c.produce_into.new.to c.produce_into.result c.if-not-produce_into.false made
    (λ s k stands. sym c.loop.invariant.wants ∙ g.met.T.Timing.laws.needs s k c.loop.self.time stands) c.loop.invariant.far.standing

pub feed_own-requires-clause-own : goal.feed_own-requires-clause-own
feed_own-requires-clause-own g c =
    let made : Made c.loop.self.func c.produce_into.new.self (entry_if c.produce_into.result c.produce_into.new.to) =
    record { produced = c.produce_into.ensures.produced; moved = c.produce_into.ensures.moved; none = c.produce_into.ensures.none; same = c.produce_into.ensures.same } in
    fed_own g.T.Timing.timed g.met.T.Timing.laws c.loop.self c.loop.invariant.clear c.produce_into.new.self c.produce_into.new.to c.produce_into.result c.if-not-produce_into.false made
    (λ s k stands. sym c.loop.invariant.wants ∙ g.met.T.Timing.laws.needs s k c.loop.self.time stands) c.loop.invariant.far.standing

pub obey-requires : goal.obey-requires
obey-requires g c =
    let made : Made c.loop.self.func c.produce_into.new.self (entry_if c.produce_into.result c.produce_into.new.to) =
    record { produced = c.produce_into.ensures.produced; moved = c.produce_into.ensures.moved; none = c.produce_into.ensures.none; same = c.produce_into.ensures.same } in
    let may : MayObey c.in-Ordered.order c.produce_into.new.self =
    fed_may g.T.Timing.timed g.met.T.Timing.laws c.loop.self c.loop.invariant.clear c.produce_into.new.self c.produce_into.new.to c.produce_into.result c.if-not-produce_into.false made
    (λ s k stands. sym c.loop.invariant.wants ∙ g.met.T.Timing.laws.needs s k c.loop.self.time stands)
    c.feed_own.new.self c.feed_own.result c.feed_own.ensures.fed c.in-Ordered.order c.in-Ordered.is c.loop.invariant.far.standing in
    record {
      reach = may.reach;
      from = may.from;
      room = may.room;
      number = may.number;
      position = may.position;
      epoch = may.epoch;
      within = may.within;
    }

pub returns-in-Ordered : goal.returns-in-Ordered
returns-in-Ordered g c =
    let made : Made c.loop.self.func c.produce_into.new.self (entry_if c.produce_into.result c.produce_into.new.to) =
    record { produced = c.produce_into.ensures.produced; moved = c.produce_into.ensures.moved; none = c.produce_into.ensures.none; same = c.produce_into.ensures.same } in
    let plays : Plays g.T.Timing.timed c.loop.self (record c.loop.self { func = c.obey.new.self; time = c.feed_own.new.self }) =
    fed_obeyed g.T.Timing.timed g.met.T.Timing.laws c.loop.self c.loop.invariant.clear c.produce_into.new.self c.produce_into.new.to c.produce_into.result c.if-not-produce_into.false made
    (λ s k stands. sym c.loop.invariant.wants ∙ g.met.T.Timing.laws.needs s k c.loop.self.time stands)
    c.feed_own.new.self c.feed_own.result c.feed_own.ensures.fed c.in-Ordered.order c.in-Ordered.is c.obey.new.self c.obey.ensures.stands c.obey.ensures.moved in
    let more = demand_more g.T.Timing.timed g.met.T.Timing.laws c.args.self.now c.loop.self (record c.loop.self { func = c.obey.new.self; time = c.feed_own.new.self }) c.loop.invariant.far plays in
    record {
      plays = more.plays;
      out = λ s from sound starts i.
          out_fed_obeyed g.T.Timing.timed g.met.T.Timing.laws s sound from starts c.loop.self c.loop.invariant.clear c.produce_into.new.self c.produce_into.new.to c.produce_into.result c.if-not-produce_into.false made
          (λ s k stands. sym c.loop.invariant.wants ∙ g.met.T.Timing.laws.needs s k c.loop.self.time stands) c.feed_own.new.self c.feed_own.result c.feed_own.ensures.fed
          c.in-Ordered.order c.in-Ordered.is c.obey.new.self c.obey.ensures.stands c.obey.ensures.moved (c.loop.invariant.inside s from sound starts i);
      clear = clear_at c.loop.self c.loop.invariant.clear c.obey.new.self c.feed_own.new.self;
    }

pub returns-in-Moved : goal.returns-in-Moved
returns-in-Moved g c =
    let made : Made c.loop.self.func c.produce_into.new.self (entry_if c.produce_into.result c.produce_into.new.to) =
    record { produced = c.produce_into.ensures.produced; moved = c.produce_into.ensures.moved; none = c.produce_into.ensures.none; same = c.produce_into.ensures.same } in
    let plays : Plays g.T.Timing.timed c.loop.self (record c.loop.self { func = c.produce_into.new.self; time = c.feed_own.new.self }) =
    fed_silent g.T.Timing.timed g.met.T.Timing.laws c.loop.self c.loop.invariant.clear c.produce_into.new.self c.produce_into.new.to c.produce_into.result c.if-not-produce_into.false made
    (λ s k stands. sym c.loop.invariant.wants ∙ g.met.T.Timing.laws.needs s k c.loop.self.time stands)
    c.feed_own.new.self c.feed_own.result c.feed_own.ensures.fed (untold_or_over c.feed_own.result c.in-Moved.is) in
    let more = demand_more g.T.Timing.timed g.met.T.Timing.laws c.args.self.now c.loop.self (record c.loop.self { func = c.produce_into.new.self; time = c.feed_own.new.self }) c.loop.invariant.far plays in
    record {
      plays = more.plays;
      out = λ s from sound starts i.
          out_fed g.T.Timing.timed g.met.T.Timing.laws s sound from starts c.loop.self c.loop.invariant.clear c.produce_into.new.self c.produce_into.new.to c.produce_into.result c.if-not-produce_into.false made
          (λ s k stands. sym c.loop.invariant.wants ∙ g.met.T.Timing.laws.needs s k c.loop.self.time stands) c.feed_own.new.self c.feed_own.result c.feed_own.ensures.fed
          (untold_or_over c.feed_own.result c.in-Moved.is) (c.loop.invariant.inside s from sound starts i);
      clear = clear_at c.loop.self c.loop.invariant.clear c.produce_into.new.self c.feed_own.new.self;
    }

pub loop-preserved : goal.loop-preserved
loop-preserved g c =
    let made : Made c.loop.self.func c.produce_into.new.self (entry_if c.produce_into.result c.produce_into.new.to) =
    record { produced = c.produce_into.ensures.produced; moved = c.produce_into.ensures.moved; none = c.produce_into.ensures.none; same = c.produce_into.ensures.same } in
    let plays : Plays g.T.Timing.timed c.loop.self (record c.loop.self { func = c.produce_into.new.self; time = c.feed_own.new.self }) =
    fed_silent g.T.Timing.timed g.met.T.Timing.laws c.loop.self c.loop.invariant.clear c.produce_into.new.self c.produce_into.new.to c.produce_into.result c.if-not-produce_into.false made
    (λ s k stands. sym c.loop.invariant.wants ∙ g.met.T.Timing.laws.needs s k c.loop.self.time stands)
    c.feed_own.new.self c.feed_own.result c.feed_own.ensures.fed (ap order_told c.in-Want.is) in
    let more = demand_more g.T.Timing.timed g.met.T.Timing.laws c.args.self.now c.loop.self (record c.loop.self { func = c.produce_into.new.self; time = c.feed_own.new.self }) c.loop.invariant.far plays in
    record {
      far = more;
      clear = clear_at c.loop.self c.loop.invariant.clear c.produce_into.new.self c.feed_own.new.self;
      wants = c.feed_own.ensures.waiting c.in-Want.is;
      inside = λ s from sound starts i.
          let new = record c.loop.self { func = c.produce_into.new.self; time = c.feed_own.new.self } in
          back_in g.T.Timing.timed g.met.T.Timing.laws s sound from starts new (wants_off g.T.Timing.timed g.met.T.Timing.laws s sound from starts new (c.feed_own.ensures.waiting c.in-Want.is))
          (out_fed g.T.Timing.timed g.met.T.Timing.laws s sound from starts c.loop.self c.loop.invariant.clear c.produce_into.new.self c.produce_into.new.to c.produce_into.result c.if-not-produce_into.false made
          (λ s k stands. sym c.loop.invariant.wants ∙ g.met.T.Timing.laws.needs s k c.loop.self.time stands) c.feed_own.new.self c.feed_own.result c.feed_own.ensures.fed
          (ap order_told c.in-Want.is) (c.loop.invariant.inside s from sound starts i));
    }

-- where no entry was made nothing changed
none_same : {P : Type 0} (b : Bool) (e : Entry) → b ≡ false → IfNone (entry_if b e) P → P
none_same true e is same = cc
none_same false e is same = same

pub returns-then-not-produce_into-clause-out : goal.returns-then-not-produce_into-clause-out
returns-then-not-produce_into-clause-out g c = λ s from sound starts i.
    let same : c.produce_into.new.self ≡ c.loop.self.func = none_same c.produce_into.result c.produce_into.new.to c.if-not-produce_into.true c.produce_into.ensures.same in
    subst (λ func. IsOut g.T.Timing.timed s from (record c.loop.self { func = func })) (sym same)
    (moved_on g.T.Timing.timed g.met.T.Timing.laws s sound from starts c.loop.self c.loop.invariant.wants (c.loop.invariant.inside s from sound starts i))

pub returns-clause-out : goal.returns-clause-out
returns-clause-out g c = λ s from sound starts i.
    moved_on g.T.Timing.timed g.met.T.Timing.laws s sound from starts c.loop.self c.loop.invariant.wants (c.loop.invariant.inside s from sound starts i)
