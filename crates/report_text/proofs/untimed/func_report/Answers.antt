use Rattle.std.proofs.Common.{arith}
use Rattle.std.proofs.lemmas.Result.{err_from_is_err_and}
use Rattle.fsim_ports.proofs.Writing.{puts_second, breaks_first}
use Rattle.mono_model.specs.Report.{func_report_text}
use Rattle.report_text.specs.Rest.{output_rest}
use Rattle.report_text.proofs.untimed.func_report.Goals as goal

pub returns-clause-written : goal.returns-clause-written
returns-clause-written g c =
    puts_second (output_rest c.args.put c.args.output.now) (func_report_text c.args.f.now) (g.K.Sink.faults c.put_report.new.sink) (g.K.Sink.written c.args.sink.now) (g.K.Sink.written c.put_report.new.sink) c.put_report.result c.in_ok-put_output.ensures.written c.in_ok-put_output.ensures.count c.put_report.ensures.written

pub returns-in_err-put_output-clause-written : goal.returns-in_err-put_output-clause-written
returns-in_err-put_output-clause-written g c =
    let left = err_from_is_err_and c.from_residual.result c.from_residual.ensures.1 in
    rw (left.1) (breaks_first (func_report_text c.args.f.now) (omega arith) c.in_err-put_output.ensures.written)
