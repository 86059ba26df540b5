use Rattle.std.proofs.Common.{◌≡◌, ◌∙◌, List, ℕ, ap, subst, arith}
use Rattle.std.proofs.lemmas.Result.{err_from_is_err_and}
use Rattle.fsim_ports.specs.Sink.{Breaks, grown}
use Rattle.fsim_ports.proofs.Writing.{puts_second, breaks_first}
use Rattle.report_text.specs.DebugText.{machine_text}
use Rattle.report_text.specs.Lines.{output_line, values_text}
use Rattle.report_text.proofs.debugging.machine_lines.Goals as goal

pub returns-clause-written : goal.returns-clause-written
unfolding machine_text
returns-clause-written g c =
    let line : c.as_slice.result.now ≡ output_line c.args.output = c.as_slice.ensures.same ∙ c.output_line.ensures.text in
    let first = c.in_ok-put_piece.ensures.written ∙ ap (grown (g.K.Sink.written c.args.sink.now)) line in
    puts_second (output_line c.args.output) (values_text c.args.regs.now c.args.csrs.now c.args.cmp) (g.K.Sink.faults c.put_values.new.sink) (g.K.Sink.written c.args.sink.now) (g.K.Sink.written c.put_values.new.sink) c.put_values.result first c.in_ok-put_piece.ensures.count c.put_values.ensures.written

pub returns-in_err-put_piece-clause-written : goal.returns-in_err-put_piece-clause-written
unfolding machine_text
returns-in_err-put_piece-clause-written g c =
    let left = err_from_is_err_and c.from_residual.result c.from_residual.ensures.1 in
    let line : c.as_slice.result.now ≡ output_line c.args.output = c.as_slice.ensures.same ∙ c.output_line.ensures.text in
    let P : List ℕ → Type 0 = λ t. Breaks t (g.K.Sink.faults c.args.sink.now) (g.K.Sink.faults c.put_piece.new.sink) (g.K.Sink.written c.args.sink.now) (g.K.Sink.written c.put_piece.new.sink) in
    rw (left.1) (breaks_first (values_text c.args.regs.now c.args.csrs.now c.args.cmp) (omega arith) (subst P line c.in_err-put_piece.ensures.written))
