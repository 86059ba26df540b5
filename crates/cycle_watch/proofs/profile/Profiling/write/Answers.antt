use Rattle.std.proofs.Common.{arith}
use Rattle.std.proofs.lemmas.Result.{err_from_is_err_and}
use Rattle.fsim_ports.proofs.Writing.{puts_second, breaks_first}
use Rattle.mono_model.specs.Report.{joined}
use Rattle.insight_model.specs.Profile.{events, profile_header, profile_lines}
use Rattle.cycle_watch.proofs.profile.Profiling.write.Goals as goal

pub returns-clause-written : goal.returns-clause-written
returns-clause-written g c = λ s kind run is short.
    puts_second profile_header (joined (profile_lines s run (events kind s run))) (g.K.Sink.faults c.write_rows.new.sink) (g.K.Sink.written c.args.sink.now) (g.K.Sink.written c.write_rows.new.sink) c.write_rows.result
    c.in_ok-profile_header.ensures.written c.in_ok-profile_header.ensures.count (c.write_rows.ensures.written s kind run is short)

pub returns-in_err-profile_header-clause-written : goal.returns-in_err-profile_header-clause-written
returns-in_err-profile_header-clause-written g c = λ s kind run is short.
    let left = err_from_is_err_and c.from_residual.result c.from_residual.ensures.1 in
    rw (left.1) (breaks_first (joined (profile_lines s run (events kind s run))) (omega arith) c.in_err-profile_header.ensures.written)
