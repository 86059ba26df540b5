use Rattle.mono_model.specs.Report.{joined}
use Rattle.insight_model.specs.Trace.{time_lines}
use Rattle.cycle_watch.specs.Writing.{stand}
use Rattle.cycle_watch.proofs.Writing.{flushed}
use Rattle.cycle_watch.proofs.trace.Tracing.close.Goals as goal

pub returns-clause-written : goal.returns-clause-written
returns-clause-written g c =
    flushed (joined (time_lines c.args.self.now.text.at c.args.end)) (stand c.args.self.now.text (g.K.Sink.faults c.args.sink.now) (g.K.Sink.written c.args.sink.now))
    (stand c.tell_time.new.self (g.K.Sink.faults c.tell_time.new.sink) (g.K.Sink.written c.tell_time.new.sink)) (g.K.Sink.faults c.flush.new.sink) (g.K.Sink.written c.flush.new.sink) c.flush.result
    c.in_ok-tell_time.ensures.put c.flush.ensures.written
