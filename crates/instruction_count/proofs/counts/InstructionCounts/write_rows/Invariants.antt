use Rattle.instruction_count.proofs.Written.{WritesRows}
use Rattle.instruction_count.proofs.counts.InstructionCounts.write_rows.Given as goal

abbrev pub invariant-loop-place : goal.invariant-loop-place
invariant-loop-place g l = WritesRows l.self l.place (g.K.Sink.faults l.initial.sink) (g.K.Sink.faults l.sink) (g.K.Sink.written l.initial.sink) (g.K.Sink.written l.sink)
