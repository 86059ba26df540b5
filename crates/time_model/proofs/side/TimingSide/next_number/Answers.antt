use Rattle.std.proofs.Common.{◌∙◌, ◌<◌, ◌^◌, sym, subst}
use Rattle.timing_core.specs.declared.state.TimingCore.{TimingCore}
use Rattle.timing_laws.specs.Seen.{seen}
use Rattle.timing_core.specs.CoreStandsFor.{CoreStandsFor}
use Rattle.time_model.specs.Piped.{place_of}
use Rattle.time_model.specs.Standing.{SideStandsFor}
use Rattle.time_model.proofs.NextNumber.{next_seen, done_small}
use Rattle.time_model.proofs.side.TimingSide.next_number.Goals as goal

pub next_number-requires : goal.next_number-requires
next_number-requires g c = record { small = subst (λ (core : TimingCore). core.to_commit < 2 ^ 63) (sym c.core.ensures.core) (done_small g.P.Pipeline.piped g.met.P.Pipeline.laws c.self.inside.state c.self.invariant) }

pub returns : goal.returns
returns g c = record {
  number = λ s k h.
      let is = subst (SideStandsFor g.P.Pipeline.piped s k) (sym c.self.view_is) h in
      let d = (place_of g.P.Pipeline.piped s k).run.demand in
      let stands = g.met.P.Pipeline.laws.core s k c.self.inside.state.pipeline c.self.inside.state.at is.pipeline in
      c.next_number.ensures.next s (seen s d) (subst (CoreStandsFor s (seen s d)) (sym c.core.ensures.core) stands) ∙ next_seen s d;
}
