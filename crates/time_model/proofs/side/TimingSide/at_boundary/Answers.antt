use Rattle.std.proofs.Common.{◌∙◌, sym, subst}
use Rattle.time_model.specs.Standing.{SideStandsFor}
use Rattle.time_model.proofs.Owing.{stands_boundary}
use Rattle.time_model.proofs.side.TimingSide.at_boundary.Goals as goal

pub returns : goal.returns
returns g c = record {
  boundary = λ s k h. c.at_boundary.ensures.boundary ∙ stands_boundary g.P.Pipeline.piped g.met.P.Pipeline.laws s k c.self.inside.state (subst (SideStandsFor g.P.Pipeline.piped s k) (sym c.self.view_is) h);
}
