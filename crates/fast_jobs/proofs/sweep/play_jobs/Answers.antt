use Rattle.std.proofs.Common.{◌≡◌, map, IfOk, sym, subst}
use Rattle.fast_jobs.specs.SweepFiles.{last_on}
use Rattle.fast_jobs.proofs.sweep.play_jobs.Goals as goal

pub returns-in-Window : goal.returns-in-Window
returns-in-Window g c = record {
  finals = subst (λ pipeline. IfOk c.sweep.result (λ finals. finals.items ≡ map (λ job. last_on pipeline job.setup) c.args.jobs.items)) (sym c.in-Window.is) c.sweep.ensures.finals;
}

pub returns-in-Inorder : goal.returns-in-Inorder
returns-in-Inorder g c = record {
  finals = subst (λ pipeline. IfOk c.sweep_in_order.result (λ finals. finals.items ≡ map (λ job. last_on pipeline job.setup) c.args.jobs.items)) (sym c.in-Inorder.is) c.sweep_in_order.ensures.finals;
}
