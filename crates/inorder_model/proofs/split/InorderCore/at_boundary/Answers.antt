use Rattle.std.proofs.Common.{ap, ◌∙◌}
use Rattle.split_core.specs.declared.state.SplitState.{SplitState}
use Rattle.inorder_model.specs.Standing.{InorderState}
use Rattle.inorder_model.proofs.InorderTimingCore.{tells, told_boundary}
use Rattle.inorder_model.proofs.split.InorderCore.at_boundary.Goals as goal

pub returns : goal.returns
returns g c = record {
  boundary = tells c.self.inside.state c.args.self.now c.self.view_is c.at_boundary.result c.at_boundary.ensures.boundary;
  here = λ at going.
      told_boundary c.self.inside.state c.args.self.now c.self.view_is c.at_boundary.result c.at_boundary.ensures.boundary at
      (c.self.invariant (ap (λ (state : SplitState g.row.D.Denot InorderState). state.is_reported) c.self.view_is ∙ going));
}
