use Rattle.std.proofs.Common.{◌∙◌, sym, subst}
use Rattle.timing_laws.specs.Seen.{seen}
use Rattle.timing_core.specs.CoreStandsFor.{CoreStandsFor}
use Rattle.time_model.specs.Piped.{place_of}
use Rattle.time_model.specs.Standing.{SideStandsFor}
use Rattle.time_model.proofs.NextNumber.{cycle_seen}
use Rattle.time_model.proofs.side.TimingSide.cycle.Goals as goal

pub returns : goal.returns
returns g c = record {
  cycle = λ s k h.
      let is = subst (SideStandsFor g.P.Pipeline.piped s k) (sym c.self.view_is) h in
      let d = (place_of g.P.Pipeline.piped s k).run.demand in
      let stands = g.met.P.Pipeline.laws.core s k c.self.inside.state.pipeline c.self.inside.state.at is.pipeline in
      c.cycle.ensures.cycle s (seen s d) (subst (CoreStandsFor s (seen s d)) (sym c.core.ensures.core) stands) ∙ cycle_seen s d;
}
