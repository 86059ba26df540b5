use Rattle.std.proofs.Common.{ap, ◌∙◌}
use Rattle.inorder_model.specs.Standing.{InorderState}
use Rattle.split_core.specs.declared.state.SplitState.{SplitState}
use Rattle.split_core.specs.Standing.{IsAtBoundaryOn}
use Rattle.inorder_model.specs.InorderTimed.{inorder_timed}
use Rattle.inorder_model.specs.InorderTimedLaws.{inorder_timed_laws}
use Rattle.split_core.specs.Standing.{EndsOn}
use Rattle.split_core.proofs.Playing.{at_the_end}
use Rattle.split_core.proofs.OnDemand.{plays_standing, ends_behind}
use Rattle.inorder_model.proofs.InorderTimingCore.{ends, end_keeps, at_inorder_boundary}
use Rattle.inorder_model.proofs.split.InorderCore.to_end.Given as given
use Rattle.inorder_model.proofs.split.InorderCore.to_end.Goals as goal

ended : (g : given.Over) (c : goal.After-to_end g) → EndsOn inorder_timed c.self.inside.state c.to_end.new.self
ended g c = ends_behind inorder_timed inorder_timed_laws c.self.inside.state c.play_on_demand.new.self c.to_end.new.self c.play_on_demand.ensures.plays c.to_end.ensures.ended

arrived : (g : given.Over) (c : goal.After-to_end g) → IsAtBoundaryOn inorder_timed c.to_end.new.self
arrived g c = at_the_end inorder_timed inorder_timed_laws c.self.inside.state c.to_end.new.self
    (c.self.invariant (ap (λ (state : SplitState g.row.D.Denot InorderState). state.is_reported) c.self.view_is ∙ c.requires.going)) (ended g c)

pub to_end-requires : goal.to_end-requires
to_end-requires g c = record {
  standing = plays_standing inorder_timed inorder_timed_laws c.self.inside.state c.play_on_demand.new.self
      (c.self.invariant (ap (λ (state : SplitState g.row.D.Denot InorderState). state.is_reported) c.self.view_is ∙ c.requires.going)) c.play_on_demand.ensures.plays;
}

pub invariant_of-self : goal.invariant_of-self
invariant_of-self g c = λ going. let is = arrived g c in is.standing

pub returns-clause-ended : goal.returns-clause-ended
returns-clause-ended g c = ends c.self.inside.state c.args.self.now c.to_end.new.self c.self.view_is (ended g c)

pub returns-clause-kept : goal.returns-clause-kept
returns-clause-kept g c = end_keeps c.args.self.now c.to_end.new.self

pub returns-clause-boundary : goal.returns-clause-boundary
returns-clause-boundary g c = at_inorder_boundary c.to_end.new.self (arrived g c)
