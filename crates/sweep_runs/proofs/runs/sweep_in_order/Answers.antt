use Rattle.std.proofs.Common.{◌≡◌, length, sym, ◌∙◌}
use Rattle.sweep_runs.specs.Sweep.{inorder_last_of}
use Rattle.sweep_runs.proofs.Order.{lasts-given, through}
use Rattle.sweep_runs.proofs.runs.sweep_in_order.Goals as goal

pub returns-in-Ok : goal.returns-in-Ok
returns-in-Ok g c =
    let jobs = c.args.jobs.items in
    let played = c.in-Ok.played.items in
    let same : length played ≡ length jobs = sym c.in-Ok.played.ok.0 ∙ c.in-Ok.ensures.len ∙ c.args.jobs.ok.0 in
    record {
      finals = through c.all_found.result c.all_found.ensures.finals
          (λ finals found. lasts-given (λ job. inorder_last_of job.setup) jobs played finals.items same (found ∙ c.as_slice.ensures.value)
          (λ i other inside.
          let given = (c.in-Ok.ensures.each i other inside).1 in
          record { job = given.job; is = given.job_is; last = given.call.met }));
    }
