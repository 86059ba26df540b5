use Rattle.std.proofs.Common.{Some, ap, sym, ◌∙◌, subst}
use Rattle.machine_csr.specs.Trap.{timer_pending}
use Rattle.func_model.specs.declared.contents.Contents.{Contents}
use Rattle.func_model.specs.History.{IsPlainStep}
use Rattle.func_model.proofs.Unmaking.{plain_step}
use Rattle.func_model.proofs.contents.Contents.make_access.Goals as goal

pub returns-in-Some-clause-step : goal.returns-in-Some-clause-step
returns-in-Some-clause-step g c = plain_step c.args.number c.args.self.now c.load.new.self _ c.plain.result c.timer_pending.result c.plain.ensures.plain c.timer_pending.ensures.pending c.if-timer_pending.false
    c.in-Some.ensures.step c.in-Some.ensures.quiet c.in-Some.ensures.restorable

pub returns-clause-step : goal.returns-clause-step
returns-clause-step g c =
    let unchanged = c.in_default.ensures.none in
    subst (λ (x : Contents g.row.D.Denot). IsPlainStep c.args.number x c.store.new.self c.plain-2.result) unchanged
    (plain_step c.args.number c.load.new.self c.store.new.self _ c.plain-2.result c.timer_pending.result c.plain-2.ensures.plain
    (c.timer_pending.ensures.pending ∙ ap (λ (x : Contents g.row.D.Denot). timer_pending x.hart.csrs c.args.number x.cmp) (sym unchanged)) c.if-timer_pending.false
    (λ s a h. c.in_ok-past.ensures.step s (Some c.args.number) a h) c.in_ok-past.ensures.quiet c.in_ok-past.ensures.restorable)
