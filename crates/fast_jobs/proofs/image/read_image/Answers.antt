use Rattle.std.proofs.Common.{◌≡◌, ◌≢◌, true}
use Rattle.std.proofs.lemmas.Result.{err_from_is_err_and}
use Rattle.report_text.specs.declared.status.Status.TheVariants.{Memory}
use Rattle.report_text.specs.SweepText.{is_sweep_refusal}
use Rattle.fast_jobs.specs.Job.{image_in}
use Rattle.fast_jobs.specs.Refusal.{refused_image}
use Rattle.fast_jobs.proofs.Jobs.{gives-through}
use Rattle.fast_jobs.proofs.Readings.{if-err-through}
use Rattle.fast_jobs.proofs.Refusals.{refused_image-line, refused_image-told}
use Rattle.fast_jobs.proofs.image.read_image.Goals as goal

pub returns-in_err-read-clause-image : goal.returns-in_err-read-clause-image
returns-in_err-read-clause-image c =
    let fault = c.in_err-read.field-0.0 in
    gives-through (image_in c.args.ram c.args.bytes.now) c.from_residual.result
    (refused_image fault)
    (err_from_is_err_and c.from_residual.result c.from_residual.ensures.1)
    (refused_image-told c.args.ram c.args.bytes.now fault c.in_err-read.ensures.fault)

pub returns-in_err-read-clause-line : goal.returns-in_err-read-clause-line
returns-in_err-read-clause-line c =
    let fault = c.in_err-read.field-0.0 in
    if-err-through (λ status. status ≢ Memory → is_sweep_refusal status ≡ true) c.from_residual.result (refused_image fault)
    (err_from_is_err_and c.from_residual.result c.from_residual.ensures.1)
    (refused_image-line fault)
