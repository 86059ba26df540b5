use Rattle.std.proofs.Common.{ap, ◌∙◌}
use Rattle.time_model.specs.OutOfOrder.{TimeState}
use Rattle.split_core.specs.declared.state.SplitState.{SplitState}
use Rattle.split_core.proofs.Mono.{tells, told_boundary}
use Rattle.split_core.proofs.split.SplitCore.at_boundary.Goals as goal

pub returns : goal.returns
returns g c = record {
  boundary = tells c.self.inside.state c.args.self.now c.self.view_is c.at_boundary.result c.at_boundary.ensures.boundary;
  here = λ at going.
      told_boundary c.self.inside.state c.args.self.now c.self.view_is c.at_boundary.result c.at_boundary.ensures.boundary at
      (c.self.invariant (ap (λ (state : SplitState g.row.D.Denot TimeState). state.is_reported) c.self.view_is ∙ going));
}
