use Rattle.std.proofs.Common.{ap, sym, ◌∙◌}
use Rattle.mono_model.specs.Demand.{Place}
use Rattle.mono_model.specs.Split.{Split}
use Rattle.split_core.specs.TimeSideLaws.{mono_sees}
use Rattle.split_core.proofs.Mono.{stands_inside}
use Rattle.split_core.proofs.split.SplitCore.cycle.Goals as goal

pub returns : goal.returns
returns g c = record {
  cycle = λ s x h.
      let i = stands_inside c.self.inside.state c.args.self.now c.self.view_is s x h in
      c.cycle.ensures.cycle s i.at.steps i.stands.time
      ∙ ap (λ (p : Place). p.run.demand.machine.cycle) (sym (mono_sees s i.at i.reached))
      ∙ ap (λ (y : Split). y.place.run.demand.machine.cycle) i.is;
}
