use Rattle.std.proofs.Common.{ℕ, List, ◌++◌, codes, arith, subst}
use Rattle.std.proofs.lemmas.Result.{err_from_is_err_and}
use Rattle.fsim_ports.specs.Sink.{Breaks, Puts}
use Rattle.fsim_ports.proofs.Writing.{puts_second, breaks_first}
use Rattle.mono_model.specs.Report.{hex, line_feed}
use Rattle.insight_model.specs.Profile.{row_name}
use Rattle.report_text.specs.RowText.{numbers_text, row_number}
use Rattle.report_text.proofs.RowTexts.{row_parts}
use Rattle.report_text.proofs.rows.number_row.Goals as goal

pub returns-clause-written : goal.returns-clause-written
returns-clause-written g c =
    let head = row_name (row_number c.args.addr) ++ codes "," ++ hex 8 c.args.word ++ numbers_text c.args.numbers.now in
    let P : List ℕ → Type 0 = λ t. Puts t (g.K.Sink.faults c.args.sink.now) (g.K.Sink.faults c.put_piece.new.sink) (g.K.Sink.written c.args.sink.now) (g.K.Sink.written c.put_piece.new.sink) c.put_piece.result in
    subst P (row_parts (row_number c.args.addr) c.args.word c.args.numbers.now)
    (puts_second head line_feed (g.K.Sink.faults c.put_piece.new.sink) (g.K.Sink.written c.args.sink.now) (g.K.Sink.written c.put_piece.new.sink) c.put_piece.result c.in_ok-put_row.ensures.written c.in_ok-put_row.ensures.count c.put_piece.ensures.written)

pub returns-in_err-put_row-clause-written : goal.returns-in_err-put_row-clause-written
returns-in_err-put_row-clause-written g c =
    let head = row_name (row_number c.args.addr) ++ codes "," ++ hex 8 c.args.word ++ numbers_text c.args.numbers.now in
    let left = err_from_is_err_and c.from_residual.result c.from_residual.ensures.1 in
    let P : List ℕ → Type 0 = λ t. Breaks t (g.K.Sink.faults c.args.sink.now) (g.K.Sink.faults c.put_row.new.sink) (g.K.Sink.written c.args.sink.now) (g.K.Sink.written c.put_row.new.sink) in
    rw (left.1) (subst P (row_parts (row_number c.args.addr) c.args.word c.args.numbers.now) (breaks_first line_feed (omega arith) c.in_err-put_row.ensures.written))
