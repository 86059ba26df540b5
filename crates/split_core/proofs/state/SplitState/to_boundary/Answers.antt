use Rattle.std.proofs.Common.{sym, ◌∙◌, arith}
use Rattle.split_core.proofs.Playing.{at_boundary_stands, all_rounds_stand, rounded_more, rounded_start}
use Rattle.split_core.proofs.state.SplitState.to_boundary.Goals as goal

pub loop-init : goal.loop-init
loop-init g c = rounded_start g.T.Timing.timed g.met.T.Timing.laws c.args.self.now c.requires.standing

pub loop-preserved : goal.loop-preserved
loop-preserved g c = rounded_more g.T.Timing.timed g.met.T.Timing.laws c.loop.counter c.args.self.now c.loop.self c.loop.invariant c.round.new.self
    (λ s x reached h. sym c.if-at_boundary.false ∙ c.at_boundary.ensures.boundary s x reached h)
    (λ s x h. omega (arith, h.rounds, c.loop-test.true))
    c.round.ensures.played

pub returns-then-at_boundary : goal.returns-then-at_boundary
returns-then-at_boundary g c = record {
  stands = at_boundary_stands g.T.Timing.timed g.met.T.Timing.laws c.loop.counter c.args.self.now c.loop.self c.loop.invariant (λ s x reached h. sym c.if-at_boundary.true ∙ c.at_boundary.ensures.boundary s x reached h);
}

pub returns : goal.returns
returns g c = record {
  stands = all_rounds_stand g.T.Timing.timed g.met.T.Timing.laws c.loop.counter c.args.self.now c.loop.self c.loop.invariant (λ s x h. omega (arith, h.rounds, c.loop-test.false));
}
