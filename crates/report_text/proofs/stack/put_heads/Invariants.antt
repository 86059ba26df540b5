use Rattle.std.proofs.Common.{length}
use Rattle.report_text.specs.StackText.{head_lines_of}
use Rattle.report_text.proofs.Lines.{WritesLines}
use Rattle.report_text.proofs.stack.put_heads.Given as goal

abbrev pub invariant-loop-cause : goal.invariant-loop-cause
invariant-loop-cause g l = WritesLines (head_lines_of l.counts) (length l.yielded) (g.K.Sink.faults l.initial.sink) (g.K.Sink.faults l.sink) (g.K.Sink.written l.initial.sink) (g.K.Sink.written l.sink)
