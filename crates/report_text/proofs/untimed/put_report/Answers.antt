use Rattle.std.proofs.Common.{List, ℕ, ◌++◌, subst, sym, arith}
use Rattle.std.proofs.lemmas.Result.{err_from_is_err_and}
use Rattle.fsim_ports.specs.Sink.{Puts, Breaks}
use Rattle.fsim_ports.proofs.Writing.{puts_second, breaks_first}
use Rattle.report_text.specs.Lines.{counts_text, registers_text, csrs_text}
use Rattle.report_text.proofs.Lines.{func_report_text-parts}
use Rattle.report_text.proofs.untimed.put_report.Goals as goal

pub returns-clause-written : goal.returns-clause-written
returns-clause-written g c =
    let P : List ℕ → Type 0 = λ t. Puts t (g.K.Sink.faults c.args.sink.now) (g.K.Sink.faults c.put_values.new.sink) (g.K.Sink.written c.args.sink.now) (g.K.Sink.written c.put_values.new.sink) c.put_values.result in
    subst P (sym (func_report_text-parts c.args.f.now)) (puts_second (counts_text c.args.f.now) (registers_text c.args.f.now.regs ++ csrs_text c.args.f.now.csrs c.args.f.now.cmp) (g.K.Sink.faults c.put_values.new.sink) (g.K.Sink.written c.args.sink.now) (g.K.Sink.written c.put_values.new.sink) c.put_values.result c.in_ok-put_counts.ensures.written c.in_ok-put_counts.ensures.count c.put_values.ensures.written)

pub returns-in_err-put_counts-clause-written : goal.returns-in_err-put_counts-clause-written
returns-in_err-put_counts-clause-written g c =
    let left = err_from_is_err_and c.from_residual.result c.from_residual.ensures.1 in
    let P : List ℕ → Type 0 = λ t. Breaks t (g.K.Sink.faults c.args.sink.now) (g.K.Sink.faults c.put_counts.new.sink) (g.K.Sink.written c.args.sink.now) (g.K.Sink.written c.put_counts.new.sink) in
    rw (left.1) (subst P (sym (func_report_text-parts c.args.f.now)) (breaks_first (registers_text c.args.f.now.regs ++ csrs_text c.args.f.now.csrs c.args.f.now.cmp) (omega arith) c.in_err-put_counts.ensures.written))
