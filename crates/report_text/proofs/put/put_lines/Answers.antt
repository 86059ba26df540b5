use Rattle.std.proofs.Common.{ℕ, List, take, ap, sym, ◌∙◌, subst, arith}
use Rattle.std.proofs.lemmas.Result.{err_from_is_err_and}
use Rattle.fsim_ports.specs.Sink.{grown, Breaks}
use Rattle.fsim_ports.proofs.Writing.{grown_twice}
use Rattle.mono_model.specs.Report.{joined}
use Rattle.report_text.proofs.Lines.{joined-take, line_breaks}
use Rattle.report_text.proofs.put.put_lines.Goals as goal

pub returns-in_err-put_piece-clause-written : goal.returns-in_err-put_piece-clause-written
returns-in_err-put_piece-clause-written g c =
    let left = err_from_is_err_and c.from_residual.result c.from_residual.ensures.1 in
    let done = c.loop-line.invariant in
    let P : List ℕ → Type 0 = λ t. Breaks t (g.K.Sink.faults c.loop-line.sink) (g.K.Sink.faults c.put_piece.new.sink) (g.K.Sink.written c.loop-line.sink) (g.K.Sink.written c.put_piece.new.sink) in
    rw (left.1) (line_breaks c.args.lines.now c.loop-line.line-index c.line-item.result c.loop-line-test.true c.line-item.is done.count done.written (subst P c.as_slice.ensures.same c.in_err-put_piece.ensures.written))

pub loop-line-preserved : goal.loop-line-preserved
loop-line-preserved g c =
    let done = c.loop-line.invariant in
    let lines = c.args.lines.now in
    let i = c.loop-line.line-index in
    let old = g.K.Sink.written c.args.sink.now in
    record {
      count = omega (arith, c.in_ok-put_piece.ensures.count);
      written =
          c.in_ok-put_piece.ensures.written
          ∙ ap (grown (g.K.Sink.written c.loop-line.sink)) c.as_slice.ensures.same
          ∙ ap (λ w. grown w c.line-item.result) done.written
          ∙ grown_twice old (joined (take i lines)) c.line-item.result
          ∙ ap (grown old) (sym (joined-take lines i c.line-item.result c.loop-line-test.true c.line-item.is));
    }
