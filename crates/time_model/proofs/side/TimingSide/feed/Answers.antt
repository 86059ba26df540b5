use Rattle.std.proofs.Common.{ap, ◌∙◌, subst}
use Rattle.time_model.specs.declared.turn.Turn.TheVariants.{Want}
use Rattle.time_model.specs.Standing.{wants_in}
use Rattle.time_model.specs.Feeding.{IsFed}
use Rattle.time_model.proofs.Feeding.{fed_dropped}
use Rattle.time_model.proofs.side.TimingSide.feed.Goals as goal

pub returns-else-entry-self-clause-fed : goal.returns-else-entry-self-clause-fed
returns-else-entry-self-clause-fed g c =
    subst (λ from. IsFed g.P.Pipeline.piped c.args.entry.now from from Want) c.self.view_is
    (fed_dropped g.P.Pipeline.piped g.met.P.Pipeline.laws c.args.entry.now c.self.inside.state (ap (wants_in g.P.Pipeline.piped) c.self.view_is ∙ c.requires.wants) c.if-entry-self.false)
