use Rattle.std.proofs.Common.{refl}
use Rattle.mono_model.specs.Alone.{alone_start}
use Rattle.report_text.specs.declared.status.Status.TheVariants.{Shown}
use Rattle.insight_model.specs.Count.{count_of_run, executed_from}
use Rattle.fast_jobs.specs.declared.job.Job.TheVariants.{Single}
use Rattle.fast_jobs.specs.declared.job.SingleJob.TheVariants.{Count}
use Rattle.fast_jobs.specs.Call.{writing_of}
use Rattle.fast_jobs.proofs.Outcomes.{ends-broken, ends-reported}
use Rattle.fast_jobs.proofs.Counts.{count-text}
use Rattle.fast_jobs.proofs.counting.run_count.Goals as goal

pub returns-in-Ok-write-clause-ends : goal.returns-in-Ok-write-clause-ends
returns-in-Ok-write-clause-ends g c =
    let s = c.args.setup.now in
    let run = executed_from s s.cycles (alone_start s) in
    ends-reported (Single (Count s)) (count_of_run s.image run) (writing_of g.K.Sink.written g.K.Sink.faults c.args.sink.now c.write.new.sink) Shown refl (λ on. cc)
    (count-text s) (c.in-Ok-write.ensures.written s.image run c.in-Ok.ensures.counts)

pub returns-clause-ends : goal.returns-clause-ends
returns-clause-ends g c =
    let s = c.args.setup.now in
    let run = executed_from s s.cycles (alone_start s) in
    ends-broken (Single (Count s)) (count_of_run s.image run) (writing_of g.K.Sink.written g.K.Sink.faults c.args.sink.now c.write.new.sink)
    (count-text s) (c.in-Err-write.ensures.written s.image run c.in-Ok.ensures.counts)
