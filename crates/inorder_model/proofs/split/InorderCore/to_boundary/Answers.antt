use Rattle.std.proofs.Common.{ap, ◌∙◌}
use Rattle.inorder_model.specs.Standing.{InorderState}
use Rattle.split_core.specs.declared.state.SplitState.{SplitState}
use Rattle.split_core.specs.Standing.{IsAtBoundaryOn}
use Rattle.inorder_model.specs.InorderTimed.{inorder_timed}
use Rattle.inorder_model.specs.InorderTimedLaws.{inorder_timed_laws}
use Rattle.split_core.proofs.Playing.{at_next_boundary}
use Rattle.inorder_model.proofs.InorderTimingCore.{comes, rounds_keep, at_inorder_boundary}
use Rattle.inorder_model.proofs.split.InorderCore.to_boundary.Given as given
use Rattle.inorder_model.proofs.split.InorderCore.to_boundary.Goals as goal

arrived : (g : given.Over) (c : goal.After-to_boundary g) → IsAtBoundaryOn inorder_timed c.to_boundary.new.self
arrived g c = at_next_boundary inorder_timed inorder_timed_laws c.self.inside.state c.to_boundary.new.self
    (c.self.invariant (ap (λ (state : SplitState g.row.D.Denot InorderState). state.is_reported) c.self.view_is ∙ c.requires.going)) c.to_boundary.ensures.stands

pub invariant_of-self : goal.invariant_of-self
invariant_of-self g c = λ going. let is = arrived g c in is.standing

pub returns-clause-stands : goal.returns-clause-stands
returns-clause-stands g c = comes c.self.inside.state c.args.self.now c.to_boundary.new.self c.self.view_is c.to_boundary.ensures.stands

pub returns-clause-kept : goal.returns-clause-kept
returns-clause-kept g c = rounds_keep c.args.self.now c.to_boundary.new.self (returns-clause-stands g c)

pub returns-clause-boundary : goal.returns-clause-boundary
returns-clause-boundary g c = at_inorder_boundary c.to_boundary.new.self (arrived g c)

pub to_boundary-requires : goal.to_boundary-requires
to_boundary-requires g c = record { standing = (c.self.invariant (ap (λ (state : SplitState g.row.D.Denot InorderState). state.is_reported) c.self.view_is ∙ c.requires.going)) }
