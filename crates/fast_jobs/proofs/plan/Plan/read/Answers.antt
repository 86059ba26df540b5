use Rattle.std.proofs.Common.{drop}
use Rattle.std.proofs.lemmas.Result.{err_from_is_err_and}
use Rattle.fast_jobs.specs.Job.{plan_in}
use Rattle.fast_jobs.proofs.Jobs.{gives-through}
use Rattle.fast_jobs.proofs.Plans.{all-read, none-left, bad-told}
use Rattle.fast_jobs.proofs.plan.Plan.read.Goals as goal

pub returns-in_err-add : goal.returns-in_err-add
returns-in_err-add c =
    let status = c.in_err-add.field-0.0 in
    record {
      plan = gives-through (plan_in c.args.bytes.now) c.from_residual.result status (err_from_is_err_and c.from_residual.result c.from_residual.ensures.1)
          (bad-told c.args.bytes.now c.loop-place.place status c.loop-place-test.true c.loop-place.invariant.bad c.in_err-add.ensures.refused);
    }

pub returns : goal.returns
returns c = record {
  plan = all-read c.args.bytes.now (drop c.loop-place.place c.args.bytes.now) c.loop-place.events.items c.loop-place.place
      (none-left c.args.bytes.now c.loop-place.place c.loop-place-test.false) c.loop-place.invariant.events c.loop-place.invariant.bad;
}
