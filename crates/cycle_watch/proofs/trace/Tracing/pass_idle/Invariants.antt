use Rattle.std.proofs.Common.{◌-◌}
use Rattle.cycle_watch.specs.Writing.{stand}
use Rattle.cycle_watch.proofs.TraceLater.{ToldIdle}
use Rattle.cycle_watch.proofs.trace.Tracing.pass_idle.Given as goal

-- those so far were told
abbrev pub invariant-loop-self : goal.invariant-loop-self
invariant-loop-self g l =
    ToldIdle l.initial.self l.self (stand l.initial.self.text (g.K.Sink.faults l.initial.sink) (g.K.Sink.written l.initial.sink))
    (stand l.self.text (g.K.Sink.faults l.sink) (g.K.Sink.written l.sink)) (g.S.Watched.sight l.side) l.until

abbrev pub decreases-loop-self : goal.decreases-loop-self
decreases-loop-self g l = l.until - l.self.last.cycle
