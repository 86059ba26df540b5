use Rattle.std.proofs.Common.{◌++◌, arith}
use Rattle.std.proofs.lemmas.Result.{err_from_is_err_and}
use Rattle.fsim_ports.proofs.Writing.{puts_second, breaks_first}
use Rattle.report_text.specs.Lines.{second_level_text, place_text, registers_text, csrs_text}
use Rattle.report_text.proofs.timed.put_levels.Goals as goal

pub returns-clause-written : goal.returns-clause-written
returns-clause-written g c =
    puts_second (second_level_text c.args.f.now) (place_text c.args.f.now ++ (registers_text c.args.f.now.regs ++ csrs_text c.args.f.now.csrs c.args.f.now.cmp)) (g.K.Sink.faults c.put_state.new.sink) (g.K.Sink.written c.args.sink.now) (g.K.Sink.written c.put_state.new.sink) c.put_state.result c.in_ok-put_second_level.ensures.written c.in_ok-put_second_level.ensures.count c.put_state.ensures.written

pub returns-in_err-put_second_level-clause-written : goal.returns-in_err-put_second_level-clause-written
returns-in_err-put_second_level-clause-written g c =
    let left = err_from_is_err_and c.from_residual.result c.from_residual.ensures.1 in
    rw (left.1) (breaks_first (place_text c.args.f.now ++ (registers_text c.args.f.now.regs ++ csrs_text c.args.f.now.csrs c.args.f.now.cmp)) (omega arith) c.in_err-put_second_level.ensures.written)
