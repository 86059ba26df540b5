use Rattle.std.proofs.Common.{map}
use Rattle.report_text.specs.RowText.{number_text}
use Rattle.report_text.proofs.Lines.{WritesLines}
use Rattle.report_text.proofs.rows.put_numbers.Given as goal

abbrev pub invariant-loop-number : goal.invariant-loop-number
invariant-loop-number g l =
    WritesLines (map number_text l.numbers) l.number-index (g.K.Sink.faults l.initial.sink) (g.K.Sink.faults l.sink) (g.K.Sink.written l.initial.sink) (g.K.Sink.written l.sink)
