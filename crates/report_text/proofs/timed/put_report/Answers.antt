use Rattle.std.proofs.Common.{List, ℕ, ◌++◌, subst, sym, arith}
use Rattle.std.proofs.lemmas.Result.{err_from_is_err_and}
use Rattle.fsim_ports.specs.Sink.{Puts, Breaks}
use Rattle.fsim_ports.proofs.Writing.{puts_second, breaks_first}
use Rattle.report_text.specs.Lines.{progress_text, costs_text, second_level_text, place_text, registers_text, csrs_text}
use Rattle.report_text.proofs.Lines.{report_text-parts}
use Rattle.report_text.proofs.timed.put_report.Goals as goal

pub returns-clause-written : goal.returns-clause-written
returns-clause-written g c =
    let P : List ℕ → Type 0 = λ t. Puts t (g.K.Sink.faults c.args.sink.now) (g.K.Sink.faults c.put_rest.new.sink) (g.K.Sink.written c.args.sink.now) (g.K.Sink.written c.put_rest.new.sink) c.put_rest.result in
    let rest = costs_text c.args.f.now ++ (second_level_text c.args.f.now ++ (place_text c.args.f.now ++ (registers_text c.args.f.now.regs ++ csrs_text c.args.f.now.csrs c.args.f.now.cmp))) in
    subst P (sym (report_text-parts c.args.f.now)) (puts_second (progress_text c.args.f.now) rest (g.K.Sink.faults c.put_rest.new.sink) (g.K.Sink.written c.args.sink.now) (g.K.Sink.written c.put_rest.new.sink) c.put_rest.result c.in_ok-put_progress.ensures.written c.in_ok-put_progress.ensures.count c.put_rest.ensures.written)

pub returns-in_err-put_progress-clause-written : goal.returns-in_err-put_progress-clause-written
returns-in_err-put_progress-clause-written g c =
    let left = err_from_is_err_and c.from_residual.result c.from_residual.ensures.1 in
    let P : List ℕ → Type 0 = λ t. Breaks t (g.K.Sink.faults c.args.sink.now) (g.K.Sink.faults c.put_progress.new.sink) (g.K.Sink.written c.args.sink.now) (g.K.Sink.written c.put_progress.new.sink) in
    let rest = costs_text c.args.f.now ++ (second_level_text c.args.f.now ++ (place_text c.args.f.now ++ (registers_text c.args.f.now.regs ++ csrs_text c.args.f.now.csrs c.args.f.now.cmp))) in
    rw (left.1) (subst P (sym (report_text-parts c.args.f.now)) (breaks_first rest (omega arith) c.in_err-put_progress.ensures.written))
