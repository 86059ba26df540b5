use Rattle.std.proofs.Common.{sym, ◌∙◌, subst}
use Rattle.func_model.specs.declared.trail.Trail.{Trail}
use Rattle.func_model.specs.Trail.{TrailStandsFor, IsTold}
use Rattle.func_model.proofs.Trails.{over}
use Rattle.func_model.proofs.trail.Trail.step.Goals as goal

pub returns-then-has_ended : goal.returns-then-has_ended
returns-then-has_ended g c = record { told = λ s h. over s c.args.self.now h (sym c.has_ended.ensures.ended ∙ c.if-has_ended.true) }

pub returns : goal.returns
returns g c = record {
  told = λ s h.
      let unchanged = c.step_access.ensures.unchanged c.if-step_access.false ∙ c.step_computed.ensures.unchanged c.if-step_computed.false in
      subst (λ (x : Trail g.row.D.Denot). IsTold s x c.step_by_call.new.self c.step_by_call.result) unchanged
      (c.step_by_call.ensures.told s (subst (λ (x : Trail g.row.D.Denot). TrailStandsFor s x) (sym unchanged) h));
}
