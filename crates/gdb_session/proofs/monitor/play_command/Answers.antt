use Rattle.std.proofs.Common.{arith}
use Rattle.std.proofs.lemmas.Result.{err_from_is_err_and}
use Rattle.gdb_session.proofs.Commanding.{command_breaks, command_puts, command_stands}
use Rattle.gdb_session.proofs.monitor.play_command.Goals as goal

pub returns-in_err-obey-clause-stands : goal.returns-in_err-obey-clause-stands
returns-in_err-obey-clause-stands g c = λ s history held h.
    command_stands s history held c.args.bytes.now c.command_in.result c.obey.new.session c.command_in.ensures.command (c.obey.ensures.stands s history held h)

pub returns-in_err-obey-clause-written : goal.returns-in_err-obey-clause-written
returns-in_err-obey-clause-written g c = λ s history held h.
    let left = err_from_is_err_and c.from_residual.result c.from_residual.ensures.1 in
    rw (left.1) (command_breaks s held c.args.bytes.now c.command_in.result
    (g.K.Sink.faults c.args.sink.now) (g.K.Sink.faults c.obey.new.sink) (g.K.Sink.faults c.obey.new.sink)
    (g.K.Sink.written c.args.sink.now) (g.K.Sink.written c.obey.new.sink)
    c.command_in.ensures.command (omega arith) (c.in_err-obey.ensures.written s history held h))

pub returns-clause-stands : goal.returns-clause-stands
returns-clause-stands g c = λ s history held h.
    command_stands s history held c.args.bytes.now c.command_in.result c.obey.new.session c.command_in.ensures.command (c.obey.ensures.stands s history held h)

pub returns-clause-written : goal.returns-clause-written
returns-clause-written g c = λ s history held h.
    command_puts s held c.args.bytes.now c.command_in.result
    (g.K.Sink.faults c.args.sink.now) (g.K.Sink.faults c.obey.new.sink) (g.K.Sink.faults c.put_content.new.sink)
    (g.K.Sink.written c.args.sink.now) (g.K.Sink.written c.obey.new.sink) (g.K.Sink.written c.put_content.new.sink)
    c.put_content.result c.command_in.ensures.command (c.in_ok-obey.ensures.written s history held h) c.obey.ensures.count c.put_content.ensures.written
