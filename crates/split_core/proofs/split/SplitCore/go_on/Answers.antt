use Rattle.std.proofs.Common.{ap, ◌∙◌}
use Rattle.time_model.specs.OutOfOrder.{TimeState}
use Rattle.split_core.specs.declared.state.SplitState.{SplitState}
use Rattle.split_core.specs.Standing.{IsStandingOn}
use Rattle.split_core.specs.TimeSide.{mono_timed}
use Rattle.split_core.specs.TimeSideLaws.{mono_laws}
use Rattle.split_core.proofs.OnDemand.{plays_standing}
use Rattle.split_core.proofs.Mono.{plays_from}
use Rattle.split_core.proofs.split.SplitCore.go_on.Given as given
use Rattle.split_core.proofs.split.SplitCore.go_on.Goals as goal

standing : (g : given.Over) (c : goal.After-play_on_demand g) → IsStandingOn mono_timed c.play_on_demand.new.self
standing g c = plays_standing mono_timed mono_laws c.self.inside.state c.play_on_demand.new.self
    (c.self.invariant (ap (λ (state : SplitState g.row.D.Denot TimeState). state.is_reported) c.self.view_is ∙ c.requires.going)) c.play_on_demand.ensures.plays

pub invariant_of-self : goal.invariant_of-self
invariant_of-self g c = λ going. standing g c

pub returns-clause-played : goal.returns-clause-played
returns-clause-played g c = plays_from c.self.inside.state c.args.self.now c.play_on_demand.new.self c.self.view_is c.play_on_demand.ensures.plays

pub returns-clause-going : goal.returns-clause-going
returns-clause-going g c = let is = standing g c in is.stands.going
