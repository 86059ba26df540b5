use Rattle.std.proofs.Common.{sym, subst}
use Rattle.gdb_packets.specs.Receiver.{StandsFor}
use Rattle.gdb_packets.specs.Stream.{next}
use Rattle.gdb_model.specs.Talk.{Talk}
use Rattle.gdb_session.proofs.Talks.{answered_ok, answered_puts, silent_stands, silent_text}
use Rattle.gdb_session.proofs.stub.Stub.take.Goals as goal

pub returns-in-Some-clause-stands : goal.returns-in-Some-clause-stands
returns-in-Some-clause-stands g c = λ s history talk h.
    let further : Talk = record talk { stream = next talk.stream c.args.byte } in
    let stream = c.take.ensures.stands talk.stream h.stream in
    answered_ok history s talk c.args.byte c.in-Some.arrival c.answer.new.self c.answer.result (sym (c.in-Some.ensures.arrival talk.stream h.stream))
    (c.answer.ensures.stands s history further (record { session = h.session; stream = stream }))
    (subst (StandsFor (next talk.stream c.args.byte)) (sym c.answer.ensures.receiver) stream)

pub returns-in-Some-clause-written : goal.returns-in-Some-clause-written
returns-in-Some-clause-written g c = λ s history talk h.
    let further : Talk = record talk { stream = next talk.stream c.args.byte } in
    let stream = c.take.ensures.stands talk.stream h.stream in
    answered_puts history s talk c.args.byte c.in-Some.arrival
    (g.K.Sink.faults c.args.sink.now) (g.K.Sink.faults c.answer.new.sink) (g.K.Sink.written c.args.sink.now) (g.K.Sink.written c.answer.new.sink) c.answer.result
    (sym (c.in-Some.ensures.arrival talk.stream h.stream))
    (c.answer.ensures.written s history further (record { session = h.session; stream = stream }))

pub returns-in-None-clause-stands : goal.returns-in-None-clause-stands
returns-in-None-clause-stands g c = λ s history talk h.
    silent_stands history s talk c.args.byte (record c.args.self.now { receiver = c.take.new.self }) (sym (c.in-None.ensures.arrival talk.stream h.stream)) h.session
    (c.take.ensures.stands talk.stream h.stream)

pub returns-in-None-clause-written : goal.returns-in-None-clause-written
returns-in-None-clause-written g c = λ s history talk h.
    silent_text history s talk c.args.byte (g.K.Sink.written c.args.sink.now) (sym (c.in-None.ensures.arrival talk.stream h.stream))
