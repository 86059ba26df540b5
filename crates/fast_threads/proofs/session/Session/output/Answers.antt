use Rattle.std.proofs.Common.{◌≡◌, ◌∙◌, ap, subst}
use Rattle.mono_model.specs.Cycle.{mono}
use Rattle.fast_threads.specs.Session.{SessionAt}
use Rattle.fast_threads.proofs.Ended.{end_output}
use Rattle.fast_threads.proofs.session.Session.output.Goals as goal

pub returns : goal.returns
returns g c = record {
  output =
      let old = c.self.inside in
      let over = c.self.invariant.over (ap (λ (w : SessionAt _). w.ended) c.self.view_is ∙ c.requires.ended) in
      subst (λ (w : SessionAt _). c.output.result.now ≡ (mono w.setup w.setup.cycles).arch.output) c.self.view_is
      (c.output.ensures.output ∙ end_output old.func.setup old.func.side.contents over.contents);
}
