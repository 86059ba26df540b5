use Rattle.std.proofs.Common.{◌≡◌, ◌≢◌, true}
use Rattle.std.proofs.lemmas.Result.{err_from_is_err_and}
use Rattle.report_text.specs.declared.status.Status.TheVariants.{Memory}
use Rattle.report_text.specs.SweepText.{is_sweep_refusal}
use Rattle.fast_jobs.specs.Stages.{machine_in}
use Rattle.fast_jobs.specs.Refusal.{refused_machine}
use Rattle.fast_jobs.proofs.Jobs.{gives-through}
use Rattle.fast_jobs.proofs.Readings.{if-err-through}
use Rattle.fast_jobs.proofs.Refusals.{refused_machine-line, refused_machine-told}
use Rattle.fast_jobs.proofs.machine.read_machine.Goals as goal

pub returns-in_err-read-clause-params : goal.returns-in_err-read-clause-params
returns-in_err-read-clause-params c =
    let fault = c.in_err-read.field-0.0 in
    gives-through (machine_in c.args.bytes.now) c.from_residual.result (refused_machine fault)
    (err_from_is_err_and c.from_residual.result c.from_residual.ensures.1)
    (refused_machine-told c.args.bytes.now fault c.in_err-read.ensures.fault)

pub returns-in_err-read-clause-line : goal.returns-in_err-read-clause-line
returns-in_err-read-clause-line c =
    let fault = c.in_err-read.field-0.0 in
    if-err-through (λ status. status ≢ Memory → is_sweep_refusal status ≡ true) c.from_residual.result (refused_machine fault)
    (err_from_is_err_and c.from_residual.result c.from_residual.ensures.1)
    (refused_machine-line fault)
