use Rattle.cycle_watch.proofs.ProfileText.{WritesRows}
use Rattle.cycle_watch.proofs.profile.Profiling.write_rows.Given as goal

abbrev pub invariant-loop-place : goal.invariant-loop-place
invariant-loop-place g l = WritesRows l.self l.place (g.K.Sink.faults l.initial.sink) (g.K.Sink.faults l.sink) (g.K.Sink.written l.initial.sink) (g.K.Sink.written l.sink)
