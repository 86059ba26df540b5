use Rattle.std.proofs.Common.{ℕ, List, ◌++◌, max, length, drop, ap, ◌∙◌, subst, refl, arith}
use Rattle.std.proofs.lemmas.Result.{err_from_is_err_and}
use Rattle.fsim_ports.specs.Sink.{Breaks, Puts}
use Rattle.fsim_ports.proofs.Writing.{breaks_first, puts_second}
use Rattle.gdb_packets.specs.Frame.{frame}
use Rattle.gdb_model.specs.Answer.{end_text, shown_text, stop_reply}
use Rattle.gdb_session.specs.Standing.{range_in, reason_in}
use Rattle.gdb_session.proofs.Sessions.{forth_stands, forth_text_is}
use Rattle.gdb_session.proofs.play.go_forth.Goals as goal

pub returns-in_err-put_output-clause-stands : goal.returns-in_err-put_output-clause-stands
returns-in_err-put_output-clause-stands g c = λ s history held h.
    let session = c.args.session.now in
    let gone = c.forth-reason.ensures.forth s session.shown session.quiet h.trail in
    forth_stands s history held (range_in c.args.range) session _ c.forth-reason.result h gone refl
    (c.max-session.ensures ∙ ap (λ (out : List ℕ). max session.shown (length out)) (c.output-output.ensures.output s gone.stopped_is.stands)) refl

pub returns-in_err-put_output-clause-written : goal.returns-in_err-put_output-clause-written
returns-in_err-put_output-clause-written g c = λ s history held h.
    let left = err_from_is_err_and c.from_residual.result c.from_residual.ensures.1 in
    let session = c.args.session.now in
    let gone = c.forth-reason.ensures.forth s session.shown session.quiet h.trail in
    rw (left.1) (subst (λ (t : List ℕ). Breaks t (g.K.Sink.faults c.args.sink.now) (g.K.Sink.faults c.put_output.new.sink) (g.K.Sink.written c.args.sink.now) (g.K.Sink.written c.put_output.new.sink))
    (forth_text_is s history held (range_in c.args.range) session c.forth-reason.new.debugger c.forth-reason.result c.output-output.result.now h gone (c.output-output.ensures.output s gone.stopped_is.stands))
    (breaks_first (frame (stop_reply (reason_in c.forth-reason.result))) (omega arith) c.in_err-put_output.ensures.written))

pub returns-clause-stands : goal.returns-clause-stands
returns-clause-stands g c = λ s history held h.
    let session = c.args.session.now in
    let gone = c.forth-reason.ensures.forth s session.shown session.quiet h.trail in
    forth_stands s history held (range_in c.args.range) session _ c.forth-reason.result h gone refl
    (c.max-session.ensures ∙ ap (λ (out : List ℕ). max session.shown (length out)) (c.output-output.ensures.output s gone.stopped_is.stands)) refl

pub returns-clause-written : goal.returns-clause-written
returns-clause-written g c = λ s history held h.
    let session = c.args.session.now in
    let output : List ℕ = c.output-output.result.now in
    let gone = c.forth-reason.ensures.forth s session.shown session.quiet h.trail in
    subst (λ (t : List ℕ). Puts t (g.K.Sink.faults c.args.sink.now) (g.K.Sink.faults c.put_stop.new.sink) (g.K.Sink.written c.args.sink.now) (g.K.Sink.written c.put_stop.new.sink) c.put_stop.result)
    (forth_text_is s history held (range_in c.args.range) session c.forth-reason.new.debugger c.forth-reason.result output h gone (c.output-output.ensures.output s gone.stopped_is.stands))
    (puts_second (shown_text (drop session.shown output) ++ end_text output (reason_in c.forth-reason.result)) (frame (stop_reply (reason_in c.forth-reason.result)))
    (g.K.Sink.faults c.put_stop.new.sink) (g.K.Sink.written c.args.sink.now) (g.K.Sink.written c.put_stop.new.sink) c.put_stop.result
    c.in_ok-put_output.ensures.written c.in_ok-put_output.ensures.count c.put_stop.ensures.written)
