use Rattle.std.proofs.Common.{sym, ◌∙◌, arith}
use Rattle.split_core.proofs.Ending.{going_start, going_on, stopped_ends, all_passed_ends}
use Rattle.split_core.proofs.state.SplitState.to_end.Goals as goal

pub loop-init : goal.loop-init
loop-init g c = going_start g.T.Timing.timed g.met.T.Timing.laws c.args.self.now c.requires.standing

pub to_boundary-requires : goal.to_boundary-requires
to_boundary-requires g c = record { standing = c.loop.invariant.standing }

pub loop-preserved : goal.loop-preserved
loop-preserved g c = going_on g.T.Timing.timed g.met.T.Timing.laws c.loop.counter c.args.self.now c.loop.self c.to_boundary.new.self c.loop.invariant c.to_boundary.ensures.stands c.tick.new.self
    (sym c.stopped.ensures.stopped ∙ c.if-stopped.false) c.tick.ensures.stepped

pub returns-then-stopped : goal.returns-then-stopped
returns-then-stopped g c = record {
  ended = stopped_ends g.T.Timing.timed g.met.T.Timing.laws c.loop.counter c.args.self.now c.loop.self c.to_boundary.new.self c.loop.invariant c.to_boundary.ensures.stands (sym c.stopped.ensures.stopped ∙ c.if-stopped.true);
}

pub returns : goal.returns
returns g c = record {
  ended = all_passed_ends g.T.Timing.timed g.met.T.Timing.laws c.loop.counter c.args.self.now c.loop.self c.to_boundary-2.new.self c.loop.invariant c.to_boundary-2.ensures.stands (λ s x h. omega (arith, h.steps, c.loop-test.false));
}
