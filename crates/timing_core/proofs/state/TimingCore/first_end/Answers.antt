use Rattle.std.proofs.Common.{arith}
use Rattle.timing_core.proofs.Idling.{earlier, earliest}
use Rattle.timing_core.proofs.state.TimingCore.first_end.Goals as goal

pub loop-place-preserved : goal.loop-place-preserved
loop-place-preserved c = record {
  executes = c.in-Some.ensures.left;
  ends =
      earlier c.args.self.now.flight.slots c.loop-place.from c.in-Some.place c.loop-place.first c.min-first.result c.done_cycle.result c.at.result c.loop-place.invariant.ends c.in-Some.ensures.first
      c.at.ensures.slot c.done_cycle.ensures.end (omega (arith, c.min-first.ensures)) (omega (arith, c.min-first.ensures));
}

pub returns : goal.returns
returns c = record { ends = earliest c.args.self.now.flight.slots c.loop-place.from c.loop-place.first c.loop-place.invariant.ends c.in_default.ensures.none }
