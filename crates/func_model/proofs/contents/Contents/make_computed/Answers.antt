use Rattle.std.proofs.Common.{Some}
use Rattle.func_model.proofs.Unmaking.{plain_step}
use Rattle.func_model.proofs.contents.Contents.make_computed.Goals as goal

pub returns-clause-step : goal.returns-clause-step
returns-clause-step g c = plain_step c.args.number c.args.self.now c.compute.new.self _ c.plain.result c.timer_pending.result c.plain.ensures.plain c.timer_pending.ensures.pending c.if-timer_pending.false
    (λ s a h. c.in_ok-past.ensures.step s (Some c.args.number) a h) c.in_ok-past.ensures.quiet c.in_ok-past.ensures.restorable
