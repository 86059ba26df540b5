use Rattle.std.proofs.Common.{ap, refl, ◌∙◌}
use Rattle.mono_model.specs.Cycle.{mono, final}
use Rattle.mono_model.specs.Report.{report_text, text}
use Rattle.mono_model.specs.Split.{split_start}
use Rattle.fast_jobs.specs.Call.{writing_of}
use Rattle.fast_jobs.specs.Outcome.{status_for}
use Rattle.fast_jobs.proofs.Putting.{first_breaks, has_put}
use Rattle.fast_jobs.proofs.Outcomes.{ends-broken, running-end}
use Rattle.machine_laws.proofs.SplitReached.{start_reached}
use Rattle.func_model.proofs.Walking.{stands_output}
use Rattle.fast_jobs.specs.declared.job.Job.TheVariants.{Single}
use Rattle.fast_jobs.specs.declared.job.SingleJob.TheVariants.{Run}
use Rattle.fast_jobs.proofs.Ending.{IsAt, at-end, at-text, at_limit, has_ended-limit, not_running}
use Rattle.fast_jobs.proofs.running.run_to_end.Goals as goal

pub returns-in-Ok-play_core-clause-ends : goal.returns-in-Ok-play_core-clause-ends
returns-in-Ok-play_core-clause-ends g c =
    let s = c.args.setup.now in
    let sound = c.requires.sound in
    let ended = c.in-Ok-play_core.ensures.ended s (split_start s) sound (start_reached s) c.in-Ok.ensures.stands in
    let put = c.in-Ok-play_core.ensures.put s (split_start s) sound (start_reached s) c.in-Ok.ensures.stands in
    let at : IsAt s ended.split.place.run.demand.machine.cycle c.output.result.now c.committed-last.result = record {
      written = c.output.ensures.output
          ∙ stands_output s (mono s ended.split.place.run.demand.machine.cycle).arch _ (c.committed-last.ensures.contents s ended.split sound ended.reached ended.stands ended.boundary);
      reported = c.committed-last.ensures.reported s ended.split sound ended.reached ended.stands ended.boundary;
    } in
    let limit : IsAt s s.cycles c.output.result.now c.committed-last.result = at_limit s ended.split c.output.result.now c.committed-last.result ended.reached ended.boundary ended.machine at in
    c.finish_timed.ensures.ends (Single (Run s)) (g.K.Sink.written c.args.sink.now) (g.K.Sink.faults c.args.sink.now)
    (λ on. absurd (not_running (mono s s.cycles).end (has_ended-limit s ended.split sound ended.reached ended.boundary ended.place ended.machine) (running-end (mono s s.cycles).end on)))
    (ap status_for (at-end s s.cycles c.output.result.now c.committed-last.result limit))
    (at-text s s.cycles c.output.result.now c.committed-last.result limit)
    (has_put (mono s s.cycles).arch.output c.output.result.now c.in-Ok-play_core.put _ _ _ _ limit.written c.play_core.ensures.count put.1)

pub returns-clause-ends : goal.returns-clause-ends
unfolding text
returns-clause-ends g c =
    let s = c.args.setup.now in
    let writing = writing_of g.K.Sink.written g.K.Sink.faults c.args.sink.now c.play_core.new.sink in
    ends-broken (Single (Run s)) (text s s.cycles) writing refl
    (first_breaks (mono s s.cycles).arch.output (report_text (final s s.cycles)) writing.faults.before writing.faults.after writing.before writing.after
    (c.in-Err-play_core.ensures.put s (split_start s) c.requires.sound (start_reached s) c.in-Ok.ensures.stands))
