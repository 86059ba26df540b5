use Rattle.std.proofs.Common.{arith}
use Rattle.std.proofs.lemmas.Result.{err_from_is_err_and}
use Rattle.fsim_ports.proofs.Writing.{puts_second, breaks_first}
use Rattle.mono_model.specs.Report.{joined}
use Rattle.insight_model.specs.Count.{count_header, count_rows}
use Rattle.instruction_count.specs.Counted.{run_events}
use Rattle.instruction_count.proofs.counts.InstructionCounts.write.Goals as goal

pub returns-clause-written : goal.returns-clause-written
returns-clause-written g c = λ image run are.
    puts_second count_header (joined (count_rows image run (run_events image run))) (g.K.Sink.faults c.write_rows.new.sink) (g.K.Sink.written c.args.sink.now) (g.K.Sink.written c.write_rows.new.sink) c.write_rows.result
    c.in_ok-count_header.ensures.written c.in_ok-count_header.ensures.count (c.write_rows.ensures.written image run are)

pub returns-in_err-count_header-clause-written : goal.returns-in_err-count_header-clause-written
returns-in_err-count_header-clause-written g c = λ image run are.
    let left = err_from_is_err_and c.from_residual.result c.from_residual.ensures.1 in
    rw (left.1) (breaks_first (joined (count_rows image run (run_events image run))) (omega arith) c.in_err-count_header.ensures.written)
