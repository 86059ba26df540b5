use Rattle.std.proofs.Common.{◌≡◌, refl, sym, ◌∙◌, subst}
use Rattle.std.specs.IoError.{error_kind}
use Rattle.report_text.specs.declared.status.Status.{Status}
use Rattle.report_text.specs.FaultText.{fault_text, status_number}
use Rattle.fast_jobs.specs.Call.{WroteTo, hearing_of, reading_of, writing_of}
use Rattle.fast_run.specs.Program.{line_in}
use Rattle.fast_run.proofs.Words.{answer-error, exit-error}
use Rattle.fast_run.proofs.program.answer_arguments.Goals as goal

pub returns-in-Err-clause-answer : goal.returns-in-Err-clause-answer
returns-in-Err-clause-answer g c =
    let sink = writing_of g.K.Sink.written g.K.Sink.faults c.args.sink.now c.tell.new.sink in
    let P : Status → Type 0 = λ status. WroteTo sink (fault_text status) in
    let told = c.plain.ensures.status ∙ c.tell.ensures.same in
    answer-error c.args.arguments c.in-Err.error 64 (reading_of g.F.Files.told g.F.Files.faults c.args.files.now c.args.files.now)
    (hearing_of g.S.Source.heard g.S.Source.faults c.args.source.now c.args.source.now) sink c.plain.result.status c.in-Err.is refl (record { same = refl; quiet = refl })
    (told ∙ c.refusal_of_error.ensures.status) (subst P (sym told) c.tell.ensures.line)

pub returns-in-Err-clause-number : goal.returns-in-Err-clause-number
returns-in-Err-clause-number g c =
    exit-error (line_in c.args.arguments) (error_kind c.in-Err.error) c.plain.result.status c.plain.result.number
    (c.plain.ensures.status ∙ c.tell.ensures.same ∙ c.refusal_of_error.ensures.status) (subst (λ status. c.plain.result.number ≡ status_number status) (sym c.plain.ensures.status) c.plain.ensures.number)
