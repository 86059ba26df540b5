use Rattle.std.proofs.Common.{◌∙◌, ℕ, List, ◌++◌, codes, ap, arith, subst}
use Rattle.std.proofs.lemmas.Result.{err_from_is_err_and}
use Rattle.fsim_ports.specs.Sink.{Breaks, grown}
use Rattle.fsim_ports.proofs.Writing.{puts_second, breaks_first}
use Rattle.mono_model.specs.Report.{hex}
use Rattle.insight_model.specs.Profile.{row_name}
use Rattle.report_text.specs.RowText.{numbers_text, row_number}
use Rattle.report_text.proofs.rows.put_row.Goals as goal

pub returns-clause-written : goal.returns-clause-written
returns-clause-written g c =
    let row = row_number c.args.addr in
    let head = row_name row ++ codes "," ++ hex 8 c.args.word in
    let rest = numbers_text c.args.numbers.now in
    let first = c.in_ok-put_piece.ensures.written ∙ ap (grown (g.K.Sink.written c.args.sink.now)) (c.as_slice.ensures.same ∙ c.row_head.ensures.text) in
    puts_second head rest (g.K.Sink.faults c.put_numbers.new.sink) (g.K.Sink.written c.args.sink.now) (g.K.Sink.written c.put_numbers.new.sink) c.put_numbers.result first c.in_ok-put_piece.ensures.count c.put_numbers.ensures.written

pub returns-in_err-put_piece-clause-written : goal.returns-in_err-put_piece-clause-written
returns-in_err-put_piece-clause-written g c =
    let row = row_number c.args.addr in
    let left = err_from_is_err_and c.from_residual.result c.from_residual.ensures.1 in
    let rest = numbers_text c.args.numbers.now in
    let P : List ℕ → Type 0 = λ t. Breaks t (g.K.Sink.faults c.args.sink.now) (g.K.Sink.faults c.put_piece.new.sink) (g.K.Sink.written c.args.sink.now) (g.K.Sink.written c.put_piece.new.sink) in
    let head = subst P (c.as_slice.ensures.same ∙ c.row_head.ensures.text) c.in_err-put_piece.ensures.written in
    rw (left.1) (breaks_first rest (omega arith) head)
