use Rattle.std.proofs.Common.{ℕ, List, length, ap, ◌∙◌, subst}
use Rattle.fsim_ports.specs.Sink.{Puts}
use Rattle.gdb_model.specs.Answer.{shown_text}
use Rattle.gdb_session.proofs.Playing.{end_stays, looked, where_is}
use Rattle.gdb_session.proofs.monitor.show_where.Goals as goal

pub returns-clause-stands : goal.returns-clause-stands
returns-clause-stands g c = λ s history held h.
    looked s history held c.args.session.now c.ahead.new.self h (c.ahead.ensures.stands s h.trail) c.ahead.ensures.others

pub returns-clause-written : goal.returns-clause-written
returns-clause-written g c = λ s history held h.
    let session = record c.args.session.now { debugger = c.ahead.new.self } in
    let stands = looked s history held c.args.session.now c.ahead.new.self h (c.ahead.ensures.stands s h.trail) c.ahead.ensures.others in
    let line = where_is s history held session c.at.result c.floor.result (length c.output.result.now) c.end_ahead-end.result c.where_line-line.result stands
    c.at.ensures.at c.floor.ensures.floor (ap (λ (out : List ℕ). length out) (c.output.ensures.output s stands.trail))
    (c.end_ahead-end.ensures.end s c.args.session.now.debugger.at (c.ahead.ensures.ahead s h.trail) ∙ end_stays s c.args.session.now.debugger c.ahead.new.self c.ahead.ensures.others)
    c.where_line-line.ensures.text in
    subst (λ (t : List ℕ). Puts (shown_text t) (g.K.Sink.faults c.args.sink.now) (g.K.Sink.faults c.put_shown.new.sink) (g.K.Sink.written c.args.sink.now) (g.K.Sink.written c.put_shown.new.sink) c.put_shown.result)
    (c.as_slice.ensures.same ∙ line) c.put_shown.ensures.written
