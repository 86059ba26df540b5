use Rattle.std.proofs.Common.{◌∙◌, ◌++◌, ◌≤◌, ℕ, List, ap, arith, subst}
use Rattle.std.proofs.lemmas.Result.{err_from_is_err_and}
use Rattle.fsim_ports.specs.Sink.{Breaks, Puts, grown}
use Rattle.fsim_ports.proofs.Writing.{breaks_second, puts_second}
use Rattle.mono_model.specs.Report.{joined}
use Rattle.insight_model.specs.Stack.{commit_width}
use Rattle.report_text.specs.StackText.{fetch_lines_of, head_lines_of, left_lines_of, occupied_lines_of}
use Rattle.report_text.proofs.StackTexts.{breaks_before, four_joined, two_written}
use Rattle.report_text.proofs.stack.stack_lines.Goals as goal

pub returns-in_err-put_heads-clause-written : goal.returns-in_err-put_heads-clause-written
returns-in_err-put_heads-clause-written g c =
    let err = err_from_is_err_and c.from_residual.result c.from_residual.ensures.1 in
    let heads = head_lines_of c.args.counts.now in
    let ends = fetch_lines_of c.args.counts.now in
    let left = left_lines_of (commit_width c.args.pipeline c.args.params.now) c.args.counts.now in
    let occupied = occupied_lines_of c.args.pipeline c.args.counts.now in
    let P : List ℕ → Type 0 = λ t. Breaks t (g.K.Sink.faults c.args.sink.now) (g.K.Sink.faults c.put_heads.new.sink) (g.K.Sink.written c.args.sink.now) (g.K.Sink.written c.put_heads.new.sink) in
    rw (err.1) (subst P (four_joined heads ends left occupied)
    (breaks_before (joined heads ++ joined ends ++ joined left) (joined occupied) (breaks_before (joined heads ++ joined ends) (joined left) (breaks_before (joined heads) (joined ends) c.in_err-put_heads.ensures.written))))

pub returns-in_err-put_ends-clause-written : goal.returns-in_err-put_ends-clause-written
returns-in_err-put_ends-clause-written g c =
    let err = err_from_is_err_and c.from_residual-in_err-put_ends.result c.from_residual-in_err-put_ends.ensures.1 in
    let heads = head_lines_of c.args.counts.now in
    let ends = fetch_lines_of c.args.counts.now in
    let left = left_lines_of (commit_width c.args.pipeline c.args.params.now) c.args.counts.now in
    let occupied = occupied_lines_of c.args.pipeline c.args.counts.now in
    let P : List ℕ → Type 0 = λ t. Breaks t (g.K.Sink.faults c.args.sink.now) (g.K.Sink.faults c.put_ends.new.sink) (g.K.Sink.written c.args.sink.now) (g.K.Sink.written c.put_ends.new.sink) in
    rw (err.1) (subst P (four_joined heads ends left occupied)
    (breaks_before (joined heads ++ joined ends ++ joined left) (joined occupied) (breaks_before (joined heads ++ joined ends) (joined left)
    (breaks_second (joined heads) c.in_ok-put_heads.ensures.written c.in_ok-put_heads.ensures.count c.in_err-put_ends.ensures.written))))

pub returns-in_err-put_left-clause-written : goal.returns-in_err-put_left-clause-written
returns-in_err-put_left-clause-written g c =
    let err = err_from_is_err_and c.from_residual-in_err-put_left.result c.from_residual-in_err-put_left.ensures.1 in
    let heads = head_lines_of c.args.counts.now in
    let ends = fetch_lines_of c.args.counts.now in
    let left = left_lines_of (commit_width c.args.pipeline c.args.params.now) c.args.counts.now in
    let occupied = occupied_lines_of c.args.pipeline c.args.counts.now in
    let P : List ℕ → Type 0 = λ t. Breaks t (g.K.Sink.faults c.args.sink.now) (g.K.Sink.faults c.put_left.new.sink) (g.K.Sink.written c.args.sink.now) (g.K.Sink.written c.put_left.new.sink) in
    let Q : ℕ → Type 0 = λ width. Breaks (joined (left_lines_of width c.args.counts.now)) (g.K.Sink.faults c.put_ends.new.sink) (g.K.Sink.faults c.put_left.new.sink) (g.K.Sink.written c.put_ends.new.sink) (g.K.Sink.written c.put_left.new.sink) in
    let broken = subst Q c.commit_width.ensures.width c.in_err-put_left.ensures.written in
    let before = two_written (joined heads) (joined ends) (g.K.Sink.written c.args.sink.now) (g.K.Sink.written c.put_heads.new.sink) c.in_ok-put_heads.ensures.written c.in_ok-put_ends.ensures.written in
    let later : g.K.Sink.faults c.args.sink.now ≤ g.K.Sink.faults c.put_ends.new.sink = omega (arith, c.in_ok-put_heads.ensures.count, c.in_ok-put_ends.ensures.count) in
    rw (err.1) (subst P (four_joined heads ends left occupied) (breaks_before (joined heads ++ joined ends ++ joined left) (joined occupied) (breaks_second (joined heads ++ joined ends) before later broken)))

pub returns-clause-written : goal.returns-clause-written
returns-clause-written g c =
    let heads = head_lines_of c.args.counts.now in
    let ends = fetch_lines_of c.args.counts.now in
    let left = left_lines_of (commit_width c.args.pipeline c.args.params.now) c.args.counts.now in
    let occupied = occupied_lines_of c.args.pipeline c.args.counts.now in
    let P : List ℕ → Type 0 = λ t. Puts t (g.K.Sink.faults c.args.sink.now) (g.K.Sink.faults c.put_occupied.new.sink) (g.K.Sink.written c.args.sink.now) (g.K.Sink.written c.put_occupied.new.sink) c.put_occupied.result in
    let third = c.in_ok-put_left.ensures.written ∙ ap (λ (width : ℕ). grown (g.K.Sink.written c.put_ends.new.sink) (joined (left_lines_of width c.args.counts.now))) c.commit_width.ensures.width in
    let before = two_written (joined heads ++ joined ends) (joined left) (g.K.Sink.written c.args.sink.now) (g.K.Sink.written c.put_ends.new.sink) (two_written (joined heads) (joined ends) (g.K.Sink.written c.args.sink.now) (g.K.Sink.written c.put_heads.new.sink) c.in_ok-put_heads.ensures.written c.in_ok-put_ends.ensures.written) third in
    let later : g.K.Sink.faults c.args.sink.now ≤ g.K.Sink.faults c.put_left.new.sink = omega (arith, c.in_ok-put_heads.ensures.count, c.in_ok-put_ends.ensures.count, c.in_ok-put_left.ensures.count) in
    subst P (four_joined heads ends left occupied)
    (puts_second (joined heads ++ joined ends ++ joined left) (joined occupied) (g.K.Sink.faults c.put_occupied.new.sink) (g.K.Sink.written c.args.sink.now) (g.K.Sink.written c.put_occupied.new.sink) c.put_occupied.result before later c.put_occupied.ensures.written)
