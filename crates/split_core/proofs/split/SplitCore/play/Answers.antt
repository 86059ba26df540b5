use Rattle.std.proofs.Common.{ap, ◌∙◌}
use Rattle.time_model.specs.OutOfOrder.{TimeState}
use Rattle.split_core.specs.declared.state.SplitState.{SplitState}
use Rattle.split_core.specs.Standing.{IsStandingOn}
use Rattle.split_core.specs.TimeSide.{mono_timed}
use Rattle.split_core.specs.TimeSideLaws.{mono_laws}
use Rattle.split_core.proofs.Playing.{after_events}
use Rattle.split_core.proofs.Mono.{plays, plays_keep}
use Rattle.split_core.proofs.split.SplitCore.play.Given as given
use Rattle.split_core.proofs.split.SplitCore.play.Goals as goal

standing : (g : given.Over) (c : goal.After-play g) → IsStandingOn mono_timed c.play.new.self
standing g c = after_events mono_timed mono_laws c.args.events.now c.self.inside.state c.play.new.self
    (c.self.invariant (ap (λ (state : SplitState g.row.D.Denot TimeState). state.is_reported) c.self.view_is ∙ c.requires.going)) c.play.ensures.played

pub invariant_of-self : goal.invariant_of-self
invariant_of-self g c = λ going. standing g c

pub returns-clause-played : goal.returns-clause-played
returns-clause-played g c = plays c.self.inside.state c.args.self.now c.play.new.self c.self.view_is c.args.events.now c.play.ensures.played

pub returns-clause-kept : goal.returns-clause-kept
returns-clause-kept g c = plays_keep c.args.self.now c.play.new.self c.args.events.now (returns-clause-played g c)

pub returns-clause-going : goal.returns-clause-going
returns-clause-going g c = let is = standing g c in is.stands.going
