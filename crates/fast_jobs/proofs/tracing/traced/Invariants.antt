use Rattle.std.proofs.Common.{◌-◌}
use Rattle.cycle_watch.specs.Writing.{stand}
use Rattle.fast_jobs.proofs.Traces.{TracesOn}
use Rattle.fast_jobs.proofs.tracing.traced.Given as goal

-- the cycles so far were told
abbrev pub invariant-loop-core : goal.invariant-loop-core
invariant-loop-core g l =
    TracesOn g.M.Played.plays l.setup l.first l.last l.core l.tracing (stand l.fn.tracing.text (g.K.Sink.faults l.fn.sink) (g.K.Sink.written l.fn.sink))
    (stand l.tracing.text (g.K.Sink.faults l.sink) (g.K.Sink.written l.sink))

abbrev pub decreases-loop-core : goal.decreases-loop-core
decreases-loop-core g l = l.last - l.tracing.last.cycle
