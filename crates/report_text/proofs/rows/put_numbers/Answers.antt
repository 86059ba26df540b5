use Rattle.std.proofs.Common.{◌≤◌, ℕ, List, length, map, take, get_or, ap, sym, ◌∙◌, subst, arith}
use Rattle.std.proofs.lemmas.List.{length-map, take_all}
use Rattle.std.proofs.lemmas.Result.{err_from_is_err_and}
use Rattle.fsim_ports.specs.Sink.{grown, Breaks}
use Rattle.fsim_ports.proofs.Writing.{grown_twice}
use Rattle.mono_model.specs.Report.{joined}
use Rattle.report_text.specs.RowText.{number_text}
use Rattle.report_text.proofs.Lines.{joined-take, line_breaks}
use Rattle.report_text.proofs.RowTexts.{text_at, texts_within}
use Rattle.report_text.proofs.rows.put_numbers.Goals as goal

pub returns-in_err-put_piece-clause-written : goal.returns-in_err-put_piece-clause-written
returns-in_err-put_piece-clause-written g c =
    let left = err_from_is_err_and c.from_residual.result c.from_residual.ensures.1 in
    let done = c.loop-number.invariant in
    let numbers = c.args.numbers.now in
    let i = c.loop-number.number-index in
    let number = get_or numbers i 0 in
    let P : List ℕ → Type 0 = λ t. Breaks t (g.K.Sink.faults c.loop-number.sink) (g.K.Sink.faults c.put_piece.new.sink) (g.K.Sink.written c.loop-number.sink) (g.K.Sink.written c.put_piece.new.sink) in
    let broken = subst P (c.as_slice.ensures.same ∙ c.next_number.ensures.text) c.in_err-put_piece.ensures.written in
    rw (left.1) (line_breaks (map number_text numbers) i (number_text number) (texts_within numbers i c.loop-number-test.true) (text_at numbers i c.loop-number-test.true) done.count done.written broken)

pub loop-number-preserved : goal.loop-number-preserved
loop-number-preserved g c =
    let done = c.loop-number.invariant in
    let numbers = c.args.numbers.now in
    let i = c.loop-number.number-index in
    let number = get_or numbers i 0 in
    let old = g.K.Sink.written c.args.sink.now in
    record {
      count = omega (arith, c.in_ok-put_piece.ensures.count);
      written =
          c.in_ok-put_piece.ensures.written
          ∙ ap (grown (g.K.Sink.written c.loop-number.sink)) (c.as_slice.ensures.same ∙ c.next_number.ensures.text)
          ∙ ap (λ w. grown w (number_text number)) done.written
          ∙ grown_twice old (joined (take i (map number_text numbers))) (number_text number)
          ∙ ap (grown old) (sym (joined-take (map number_text numbers) i (number_text number) (texts_within numbers i c.loop-number-test.true) (text_at numbers i c.loop-number-test.true)));
    }

pub returns : goal.returns
returns g c =
    let numbers = c.args.numbers.now in
    let i = c.loop-number.number-index in
    let all : length (map number_text numbers) ≤ i = omega (arith, length-map numbers number_text, c.loop-number-test.false) in
    record {
      count = c.loop-number.invariant.count;
      written = c.loop-number.invariant.written ∙ ap (λ ts. grown (g.K.Sink.written c.args.sink.now) (joined ts)) (take_all i (map number_text numbers) all);
    }
