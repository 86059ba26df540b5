use Rattle.report_text.specs.StackText.{left_lines_of}
use Rattle.report_text.proofs.Lines.{WritesLines}
use Rattle.report_text.proofs.stack.put_left.Given as goal

abbrev pub invariant-loop-left : goal.invariant-loop-left
invariant-loop-left g l = WritesLines (left_lines_of l.width l.counts) l.left (g.K.Sink.faults l.initial.sink) (g.K.Sink.faults l.sink) (g.K.Sink.written l.initial.sink) (g.K.Sink.written l.sink)
