use Rattle.std.proofs.Common.{length}
use Rattle.report_text.specs.StackText.{fetch_lines_of}
use Rattle.report_text.proofs.Lines.{WritesLines}
use Rattle.report_text.proofs.stack.put_ends.Given as goal

abbrev pub invariant-loop-end : goal.invariant-loop-end
invariant-loop-end g l = WritesLines (fetch_lines_of l.counts) (length l.yielded) (g.K.Sink.faults l.initial.sink) (g.K.Sink.faults l.sink) (g.K.Sink.written l.initial.sink) (g.K.Sink.written l.sink)
