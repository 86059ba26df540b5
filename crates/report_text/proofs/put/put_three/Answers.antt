use Rattle.std.proofs.Common.{◌++◌, arith}
use Rattle.std.proofs.lemmas.Result.{err_from_is_err_and}
use Rattle.fsim_ports.proofs.Writing.{puts_second, breaks_first}
use Rattle.report_text.proofs.put.put_three.Goals as goal

pub returns-clause-written : goal.returns-clause-written
returns-clause-written g c =
    puts_second (c.args.first.now ++ c.args.second.now) c.args.third.now (g.K.Sink.faults c.put_piece.new.sink) (g.K.Sink.written c.args.sink.now) (g.K.Sink.written c.put_piece.new.sink) c.put_piece.result c.in_ok-put_two.ensures.written c.in_ok-put_two.ensures.count c.put_piece.ensures.written

pub returns-in_err-put_two-clause-written : goal.returns-in_err-put_two-clause-written
returns-in_err-put_two-clause-written g c =
    let left = err_from_is_err_and c.from_residual.result c.from_residual.ensures.1 in
    rw (left.1) (breaks_first c.args.third.now (omega arith) c.in_err-put_two.ensures.written)
