use Rattle.std.proofs.Common.{ℕ, List, true, false, Ok, ap, sym, ◌∙◌, subst}
use Rattle.std.proofs.lemmas.Result.{err_from_is_err_and}
use Rattle.fsim_ports.specs.Sink.{Breaks, Puts, grown}
use Rattle.gdb_packets.specs.declared.packet.Packet.{Packet}
use Rattle.gdb_model.specs.Session.{Session}
use Rattle.gdb_model.specs.Talk.{played}
use Rattle.gdb_session.specs.Standing.{SessionStandsFor}
use Rattle.gdb_session.proofs.Talks.{answer_breaks, answer_ok, answer_puts, answer_stands, grown_none}
use Rattle.gdb_session.proofs.stub.Stub.answer.Goals as goal

pub returns-in_err-put_all-clause-written : goal.returns-in_err-put_all-clause-written
returns-in_err-put_all-clause-written g c = λ s history talk h.
    let left = err_from_is_err_and c.from_residual.result c.from_residual.ensures.1 in
    rw (left.1) (answer_breaks history s talk.stream.content c.args.arrival talk.session c.args.self.now.session.quiet
    (g.K.Sink.faults c.args.sink.now) (g.K.Sink.faults c.put_all.new.sink) (g.K.Sink.written c.args.sink.now) (g.K.Sink.written c.put_all.new.sink)
    (ap (λ (o : Session). o.quiet) h.session.session_is)
    (subst (λ (t : List ℕ). Breaks t (g.K.Sink.faults c.args.sink.now) (g.K.Sink.faults c.put_all.new.sink) (g.K.Sink.written c.args.sink.now) (g.K.Sink.written c.put_all.new.sink))
    c.acknowledgment.ensures.text c.in_err-put_all.ensures.written))

pub returns-then-is_answered-clause-stands : goal.returns-then-is_answered-clause-stands
returns-then-is_answered-clause-stands g c = λ s history talk h.
    answer_ok history s talk.stream.content c.args.arrival talk.session c.args.self.now.session.quiet true c.play.new.session c.play.result
    (ap (λ (o : Session). o.quiet) h.session.session_is) (sym c.is_answered.ensures.answered ∙ c.if-is_answered.true)
    (subst (λ (p : Packet). SessionStandsFor s history (played history s p talk.session).session c.play.new.session) (c.packet.ensures.packet talk.stream h.stream)
    (c.play.ensures.stands s history talk.session h.session))

pub returns-then-is_answered-clause-written : goal.returns-then-is_answered-clause-written
returns-then-is_answered-clause-written g c = λ s history talk h.
    answer_puts history s talk.stream.content c.args.arrival talk.session c.args.self.now.session.quiet true
    (g.K.Sink.faults c.args.sink.now) (g.K.Sink.faults c.put_all.new.sink) (g.K.Sink.faults c.play.new.sink)
    (g.K.Sink.written c.args.sink.now) (g.K.Sink.written c.put_all.new.sink) (g.K.Sink.written c.play.new.sink) c.play.result
    (ap (λ (o : Session). o.quiet) h.session.session_is) (sym c.is_answered.ensures.answered ∙ c.if-is_answered.true)
    (c.in_ok-put_all.ensures.written ∙ ap (grown (g.K.Sink.written c.args.sink.now)) c.acknowledgment.ensures.text) c.in_ok-put_all.ensures.count
    (subst (λ (p : Packet). Puts (played history s p talk.session).text (g.K.Sink.faults c.put_all.new.sink) (g.K.Sink.faults c.play.new.sink) (g.K.Sink.written c.put_all.new.sink) (g.K.Sink.written c.play.new.sink) c.play.result)
    (c.packet.ensures.packet talk.stream h.stream) (c.play.ensures.written s history talk.session h.session))

pub returns-else-is_answered-clause-stands : goal.returns-else-is_answered-clause-stands
returns-else-is_answered-clause-stands g c = λ s history talk h.
    answer_stands history s talk.stream.content c.args.arrival talk.session c.args.self.now.session.quiet false c.args.self.now.session
    (ap (λ (o : Session). o.quiet) h.session.session_is) (sym c.is_answered.ensures.answered ∙ c.if-is_answered.false) h.session

pub returns-else-is_answered-clause-written : goal.returns-else-is_answered-clause-written
returns-else-is_answered-clause-written g c = λ s history talk h.
    answer_puts history s talk.stream.content c.args.arrival talk.session c.args.self.now.session.quiet false
    (g.K.Sink.faults c.args.sink.now) (g.K.Sink.faults c.put_all.new.sink) (g.K.Sink.faults c.put_all.new.sink)
    (g.K.Sink.written c.args.sink.now) (g.K.Sink.written c.put_all.new.sink) (g.K.Sink.written c.put_all.new.sink) (Ok tt)
    (ap (λ (o : Session). o.quiet) h.session.session_is) (sym c.is_answered.ensures.answered ∙ c.if-is_answered.false)
    (c.in_ok-put_all.ensures.written ∙ ap (grown (g.K.Sink.written c.args.sink.now)) c.acknowledgment.ensures.text) c.in_ok-put_all.ensures.count
    (sym (grown_none (g.K.Sink.written c.put_all.new.sink)))
