use Rattle.std.proofs.Common.{ℕ, List, ◌++◌, sym, ◌∙◌}
use Rattle.mono_model.specs.Report.{closed_output, func_report_text}
use Rattle.fast_jobs.specs.Early.{writing_since}
use Rattle.fast_jobs.proofs.Putting.{rest_written, rest_breaks}
use Rattle.fast_jobs.proofs.Outcomes.{ends-reported, ends-broken}
use Rattle.fast_jobs.proofs.finish.finish_alone.Goals as goal

pub returns-in-Ok-clause-ends : goal.returns-in-Ok-clause-ends
returns-in-Ok-clause-ends g c = λ job begun faults may ended same has.
    let text : List ℕ = closed_output c.args.output.now ++ func_report_text c.args.last.now in
    let wrote = rest_written c.args.put c.args.output.now (func_report_text c.args.last.now) begun faults (g.K.Sink.written c.args.sink.now) (g.K.Sink.faults c.args.sink.now)
    (g.K.Sink.faults c.func_report.new.sink) (g.K.Sink.written c.func_report.new.sink) has c.in-Ok.ensures.written in
    ends-reported job text (writing_since g.K.Sink.written g.K.Sink.faults begun faults c.func_report.new.sink) c.status_for.result
    (c.status_for.ensures.status ∙ sym ended) may same wrote

pub returns-in-Err-clause-ends : goal.returns-in-Err-clause-ends
returns-in-Err-clause-ends g c = λ job begun faults may ended same has.
    let text : List ℕ = closed_output c.args.output.now ++ func_report_text c.args.last.now in
    let broke = rest_breaks c.args.put c.args.output.now (func_report_text c.args.last.now) begun faults (g.K.Sink.written c.args.sink.now) (g.K.Sink.faults c.args.sink.now)
    (g.K.Sink.faults c.func_report.new.sink) (g.K.Sink.written c.func_report.new.sink) has c.in-Err.ensures.written in
    ends-broken job text (writing_since g.K.Sink.written g.K.Sink.faults begun faults c.func_report.new.sink) same broke
