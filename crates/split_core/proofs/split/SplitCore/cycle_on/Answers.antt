use Rattle.std.proofs.Common.{ap, ◌∙◌}
use Rattle.time_model.specs.OutOfOrder.{TimeState}
use Rattle.split_core.specs.declared.state.SplitState.{SplitState}
use Rattle.split_core.proofs.Mono.{plays_from, next_from, at_mono_boundary}
use Rattle.split_core.proofs.split.SplitCore.cycle_on.Goals as goal

pub cycle_on-requires : goal.cycle_on-requires
cycle_on-requires g c = record { standing = (c.self.invariant (ap (λ (state : SplitState g.row.D.Denot TimeState). state.is_reported) c.self.view_is ∙ c.requires.going)) }

pub invariant_of-self : goal.invariant_of-self
invariant_of-self g c = λ going. let is = c.cycle_on.ensures.boundary in is.standing

pub returns-clause-plays : goal.returns-clause-plays
returns-clause-plays g c = plays_from c.self.inside.state c.args.self.now c.cycle_on.new.self c.self.view_is c.cycle_on.ensures.plays

pub returns-clause-next : goal.returns-clause-next
returns-clause-next g c = next_from c.self.inside.state c.args.self.now c.cycle_on.new.self c.self.view_is c.cycle_on.ensures.next

pub returns-clause-boundary : goal.returns-clause-boundary
returns-clause-boundary g c = at_mono_boundary c.cycle_on.new.self c.cycle_on.ensures.boundary

pub returns-clause-going : goal.returns-clause-going
returns-clause-going g c = let is = c.cycle_on.ensures.boundary in is.standing.stands.going
