use Rattle.std.proofs.Common.{ap, ◌∙◌}
use Rattle.inorder_model.specs.Standing.{InorderState}
use Rattle.split_core.specs.declared.state.SplitState.{SplitState}
use Rattle.split_core.specs.Standing.{IsStandingOn}
use Rattle.inorder_model.specs.InorderTimed.{inorder_timed}
use Rattle.inorder_model.specs.InorderTimedLaws.{inorder_timed_laws}
use Rattle.split_core.proofs.Playing.{after_events}
use Rattle.inorder_model.proofs.InorderTimingCore.{plays, plays_keep}
use Rattle.inorder_model.proofs.split.InorderCore.play.Given as given
use Rattle.inorder_model.proofs.split.InorderCore.play.Goals as goal

standing : (g : given.Over) (c : goal.After-play g) → IsStandingOn inorder_timed c.play.new.self
standing g c = after_events inorder_timed inorder_timed_laws c.args.events.now c.self.inside.state c.play.new.self
    (c.self.invariant (ap (λ (state : SplitState g.row.D.Denot InorderState). state.is_reported) c.self.view_is ∙ c.requires.going)) c.play.ensures.played

pub invariant_of-self : goal.invariant_of-self
invariant_of-self g c = λ going. standing g c

pub returns-clause-played : goal.returns-clause-played
returns-clause-played g c = plays c.self.inside.state c.args.self.now c.play.new.self c.self.view_is c.args.events.now c.play.ensures.played

pub returns-clause-kept : goal.returns-clause-kept
returns-clause-kept g c = plays_keep c.args.self.now c.play.new.self c.args.events.now (returns-clause-played g c)

pub returns-clause-going : goal.returns-clause-going
returns-clause-going g c = let is = standing g c in is.stands.going
