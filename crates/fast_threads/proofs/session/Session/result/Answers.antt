use Rattle.std.proofs.Common.{rules, ◌≡◌, ◌∙◌, length, ap, sym, subst}
use Rattle.mono_model.specs.declared.setup.Setup.{Setup}
use Rattle.mono_model.specs.Cycle.{mono, final}
use Rattle.mono_model.specs.Machine.{stats_of}
use Rattle.func_model.specs.declared.side.Arch.{Arch}
use Rattle.func_model.specs.Side.{reported_of}
use Rattle.side_laws.proofs.Reporting.{reports}
use Rattle.fast_threads.specs.Session.{SessionAt}
use Rattle.fast_threads.proofs.session.Session.result.Goals as goal

pub returns : goal.returns
returns g c = record {
  reported =
      let old = c.self.inside in
      let is = c.self.invariant in
      let over = is.over (ap (λ (w : SessionAt _). w.ended) c.self.view_is ∙ c.requires.ended) in
      let s : Setup = old.func.setup in
      let whole : length c.arch-arch.result.regs ≡ 32 = search rules in
      subst (λ (w : SessionAt _). c.reported.result ≡ final w.setup w.setup.cycles) c.self.view_is
      (c.reported.ensures.reported
      ∙ ap (λ (a : Arch). reported_of c.end.result c.stats.result a) c.arch-arch.ensures.arch
      ∙ reports s (mono s s.cycles) old.func.side c.end.result c.stats.result over.contents
      (ap (λ (a : Arch). length a.regs) (sym c.arch-arch.ensures.arch) ∙ whole)
      (c.end.ensures.end over.halted ∙ ap (λ (x : Setup). (mono x x.cycles).end) is.same)
      (c.stats.ensures.stats over.halted ∙ ap (λ (x : Setup). stats_of x (mono x x.cycles)) is.same));
}
