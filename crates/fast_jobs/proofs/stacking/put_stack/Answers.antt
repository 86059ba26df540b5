use Rattle.std.proofs.Common.{List, ℕ, ◌++◌, arith}
use Rattle.std.proofs.lemmas.Result.{err_from_is_err_and}
use Rattle.fsim_ports.proofs.Writing.{puts_second, breaks_first}
use Rattle.mono_model.specs.Report.{closed_output, joined, report_text}
use Rattle.report_text.specs.StackText.{stack_lines_of}
use Rattle.fast_jobs.proofs.Putting.{none_put, rest_breaks, rest_written}
use Rattle.fast_jobs.proofs.stacking.put_stack.Goals as goal

pub returns-clause-written : goal.returns-clause-written
returns-clause-written g c =
    let output = c.args.output.now in
    let told = report_text c.args.last.now in
    let old = g.K.Sink.written c.args.sink.now in
    let before = g.K.Sink.faults c.args.sink.now in
    let first = rest_written 0 output told old before old before (g.K.Sink.faults c.report.new.sink) (g.K.Sink.written c.report.new.sink) (none_put output old before) c.in_ok-report.ensures.written in
    puts_second (closed_output output ++ told) (joined (stack_lines_of c.args.pipeline c.args.params.now c.args.counts.now))
    (g.K.Sink.faults c.stack_lines.new.sink) old (g.K.Sink.written c.stack_lines.new.sink) c.stack_lines.result first c.in_ok-report.ensures.count c.stack_lines.ensures.written

pub returns-in_err-report-clause-written : goal.returns-in_err-report-clause-written
returns-in_err-report-clause-written g c =
    let left = err_from_is_err_and c.from_residual.result c.from_residual.ensures.1 in
    let output = c.args.output.now in
    let old = g.K.Sink.written c.args.sink.now in
    let before = g.K.Sink.faults c.args.sink.now in
    let broke = rest_breaks 0 output (report_text c.args.last.now) old before old before (g.K.Sink.faults c.report.new.sink) (g.K.Sink.written c.report.new.sink) (none_put output old before) c.in_err-report.ensures.written in
    rw (left.1) (breaks_first (joined (stack_lines_of c.args.pipeline c.args.params.now c.args.counts.now)) (omega arith) broke)
