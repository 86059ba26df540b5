use Rattle.std.proofs.Common.{◌≡◌, ◌∙◌, ◌<◌, ◌+◌, ◌++◌, ℕ, List, codes, length, take, get_or, ap, arith, subst}
use Rattle.std.specs.Prelude.{decimal}
use Rattle.std.proofs.lemmas.Result.{err_from_is_err_and}
use Rattle.fsim_ports.specs.Sink.{Breaks, grown}
use Rattle.mono_model.specs.Report.{Text, count_line}
use Rattle.report_text.specs.StackText.{left_lines_of}
use Rattle.report_text.proofs.Lines.{all_written, line_breaks, line_written}
use Rattle.report_text.proofs.StackTexts.{left_at, left_many, left_within}
use Rattle.report_text.proofs.stack.put_left.Goals as goal

pub returns-in_err-put_piece-clause-written : goal.returns-in_err-put_piece-clause-written
returns-in_err-put_piece-clause-written g c =
    let left = err_from_is_err_and c.from_residual.result c.from_residual.ensures.1 in
    let counts = c.args.counts.now in
    let i = c.loop-left.left in
    let below : c.args.width < length counts.left = omega (arith, c.requires.width) in
    let inside : i < c.args.width + 1 = omega (arith, c.loop-left-test.true) in
    let number : ℕ = get_or (take (c.args.width + 1) counts.left) i 0 in
    let text : Text = count_line (codes "left." ++ decimal i ++ codes ": ") number in
    let line : c.as_slice.result.now ≡ text = c.as_slice.ensures.same ∙ c.left_line.ensures.text in
    let P : List ℕ → Type 0 = λ t. Breaks t (g.K.Sink.faults c.loop-left.sink) (g.K.Sink.faults c.put_piece.new.sink) (g.K.Sink.written c.loop-left.sink) (g.K.Sink.written c.put_piece.new.sink) in
    rw (left.1) (line_breaks (left_lines_of c.args.width counts) i text (left_within c.args.width counts below i inside) (left_at c.args.width counts below i inside) c.loop-left.invariant.count c.loop-left.invariant.written (subst P line c.in_err-put_piece.ensures.written))

pub loop-left-preserved : goal.loop-left-preserved
loop-left-preserved g c =
    let counts = c.args.counts.now in
    let i = c.loop-left.left in
    let below : c.args.width < length counts.left = omega (arith, c.requires.width) in
    let inside : i < c.args.width + 1 = omega (arith, c.loop-left-test.true) in
    let number : ℕ = get_or (take (c.args.width + 1) counts.left) i 0 in
    let text : Text = count_line (codes "left." ++ decimal i ++ codes ": ") number in
    let line : c.as_slice.result.now ≡ text = c.as_slice.ensures.same ∙ c.left_line.ensures.text in
    line_written (left_lines_of c.args.width counts) i text (left_within c.args.width counts below i inside) (left_at c.args.width counts below i inside) c.loop-left.invariant c.in_ok-put_piece.ensures.count
    (c.in_ok-put_piece.ensures.written ∙ ap (grown (g.K.Sink.written c.loop-left.sink)) line)

pub returns-clause-written : goal.returns-clause-written
returns-clause-written g c =
    let below : c.args.width < length c.args.counts.now.left = omega (arith, c.requires.width) in
    all_written (left_lines_of c.args.width c.args.counts.now) c.loop-left.left (omega (arith, left_many c.args.width c.args.counts.now below, c.loop-left-test.false)) c.loop-left.invariant
