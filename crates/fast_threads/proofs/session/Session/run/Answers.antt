use Rattle.std.proofs.Common.{rules, ◌∙◌, ap, sym, subst}
use Rattle.fast_threads.specs.Workers.{HasGoneOn, KeepsObeyed}
use Rattle.fast_threads.specs.Session.{SessionAt}
use Rattle.fast_threads.proofs.Keeping.{keeps, kept_goes_on}
use Rattle.fast_threads.proofs.session.Session.run.Goals as goal

pub returns-then-stopped-clause-kept : goal.returns-then-stopped-clause-kept
returns-then-stopped-clause-kept g c =
    keeps c.args.self.now _ (ap (λ (x : SessionAt _). x.setup) c.self-in-loop.view_is ∙ c.loop.invariant.0)
    (λ os on. subst (λ (x : SessionAt _). HasGoneOn x.setup x.obeyed x.func os) (sym c.self-in-loop.view_is) (c.loop.invariant.2 os on))

pub loop-preserved : goal.loop-preserved
loop-preserved g c =
    let kept : KeepsObeyed c.self-in-loop.inside.func c.join_mut.new.f.0.now = search rules in (
      search rules,
      c.take_turns.ensures.runs,
      λ os on.
          kept_goes_on _ _ c.take_turns.ensures.kept os
          (kept.on os (subst (λ (x : SessionAt _). HasGoneOn x.setup x.obeyed x.func os) (sym c.self-in-loop.view_is) (c.loop.invariant.2 os on))),
    )
