use Rattle.std.proofs.Common.{ap, ◌∙◌}
use Rattle.inorder_model.specs.Standing.{InorderState}
use Rattle.split_core.specs.declared.state.SplitState.{SplitState}
use Rattle.split_core.specs.Standing.{IsStandingOn}
use Rattle.inorder_model.specs.InorderTimed.{inorder_timed}
use Rattle.inorder_model.specs.InorderTimedLaws.{inorder_timed_laws}
use Rattle.split_core.proofs.OnDemand.{plays_standing}
use Rattle.inorder_model.proofs.InorderTimingCore.{plays_from}
use Rattle.inorder_model.proofs.split.InorderCore.go_on.Given as given
use Rattle.inorder_model.proofs.split.InorderCore.go_on.Goals as goal

standing : (g : given.Over) (c : goal.After-play_on_demand g) → IsStandingOn inorder_timed c.play_on_demand.new.self
standing g c = plays_standing inorder_timed inorder_timed_laws c.self.inside.state c.play_on_demand.new.self
    (c.self.invariant (ap (λ (state : SplitState g.row.D.Denot InorderState). state.is_reported) c.self.view_is ∙ c.requires.going)) c.play_on_demand.ensures.plays

pub invariant_of-self : goal.invariant_of-self
invariant_of-self g c = λ going. standing g c

pub returns-clause-played : goal.returns-clause-played
returns-clause-played g c = plays_from c.self.inside.state c.args.self.now c.play_on_demand.new.self c.self.view_is c.play_on_demand.ensures.plays

pub returns-clause-going : goal.returns-clause-going
returns-clause-going g c = let is = standing g c in is.stands.going
