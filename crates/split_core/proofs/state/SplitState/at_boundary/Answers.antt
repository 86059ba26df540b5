use Rattle.std.proofs.Common.{◌∙◌}
use Rattle.split_core.proofs.Playing.{boundary_then, boundary_else}
use Rattle.split_core.proofs.state.SplitState.at_boundary.Goals as goal

pub returns-then-at_boundary : goal.returns-then-at_boundary
returns-then-at_boundary g c = record {
  boundary = λ s x reached h.
      boundary_then g.T.Timing.timed g.met.T.Timing.laws s x c.args.self.now reached h c.at_boundary.result (c.at_boundary.ensures.boundary s x.steps h.time) c.if-at_boundary.true
      c.is_level.result c.is_level.ensures.level;
}

pub returns-else-at_boundary : goal.returns-else-at_boundary
returns-else-at_boundary g c = record {
  boundary = λ s x reached h.
      c.if-at_boundary.false
      ∙ boundary_else g.T.Timing.timed g.met.T.Timing.laws s x c.args.self.now reached h c.at_boundary.result (c.at_boundary.ensures.boundary s x.steps h.time) c.if-at_boundary.false;
}
