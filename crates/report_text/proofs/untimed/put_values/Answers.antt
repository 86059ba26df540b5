use Rattle.std.proofs.Common.{arith}
use Rattle.std.proofs.lemmas.Result.{err_from_is_err_and}
use Rattle.fsim_ports.proofs.Writing.{puts_second, breaks_first}
use Rattle.report_text.specs.Lines.{registers_text, csrs_text}
use Rattle.report_text.proofs.untimed.put_values.Goals as goal

pub returns-clause-written : goal.returns-clause-written
returns-clause-written g c =
    puts_second (registers_text c.args.regs.now) (csrs_text c.args.csrs.now c.args.cmp) (g.K.Sink.faults c.put_csrs.new.sink) (g.K.Sink.written c.args.sink.now) (g.K.Sink.written c.put_csrs.new.sink) c.put_csrs.result c.in_ok-put_registers.ensures.written c.in_ok-put_registers.ensures.count c.put_csrs.ensures.written

pub returns-in_err-put_registers-clause-written : goal.returns-in_err-put_registers-clause-written
returns-in_err-put_registers-clause-written g c =
    let left = err_from_is_err_and c.from_residual.result c.from_residual.ensures.1 in
    rw (left.1) (breaks_first (csrs_text c.args.csrs.now c.args.cmp) (omega arith) c.in_err-put_registers.ensures.written)
