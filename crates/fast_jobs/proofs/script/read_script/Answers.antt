use Rattle.std.proofs.Common.{Err, ap}
use Rattle.std.proofs.lemmas.Result.{err_from_is_err_and}
use Rattle.fast_jobs.specs.Job.{script_in}
use Rattle.fast_jobs.specs.Refusal.{refused_script}
use Rattle.fast_jobs.proofs.Jobs.{gives-through}
use Rattle.fast_jobs.proofs.Refusals.{refused_script-told}
use Rattle.fast_jobs.proofs.script.read_script.Goals as goal

pub returns-in_err-read : goal.returns-in_err-read
returns-in_err-read c =
    let fault = c.in_err-read.field-0.0 in
    record {
      script = gives-through (script_in c.args.bytes.now) c.from_residual.result (refused_script fault)
          (err_from_is_err_and c.from_residual.result c.from_residual.ensures.1)
          (refused_script-told c.args.bytes.now fault (λ line same. c.in_err-read.ensures.bad line (ap Err same)));
    }
