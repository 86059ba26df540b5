use Rattle.std.proofs.Common.{map, List, refl, ap, ◌∙◌, subst}
use Rattle.mono_model.specs.Cycle.{mono}
use Rattle.mono_model.specs.Split.{split_start, run, to_boundary, reach}
use Rattle.machine_laws.proofs.SplitReached.{start_reached}
use Rattle.func_model.proofs.Walking.{stands_output}
use Rattle.split_core.specs.declared.event.Event.{Event}
use Rattle.split_core.specs.Events.{event_in}
use Rattle.split_core.specs.Standing.{SplitStandsFor}
use Rattle.fast_jobs.specs.declared.job.Job.TheVariants.{Single}
use Rattle.fast_jobs.specs.declared.job.SingleJob.TheVariants.{Sched}
use Rattle.fast_jobs.specs.Outcome.{planned_cycle, status_for}
use Rattle.fast_jobs.proofs.Putting.{none_put}
use Rattle.fast_jobs.proofs.Ending.{IsAt, at-end, at-text, at_planned, planned-reached, boundary-reached, boundary-comes}
use Rattle.fast_jobs.proofs.running.run_plan.Goals as goal

pub returns-clause-ends : goal.returns-clause-ends
returns-clause-ends g c =
    let s = c.args.setup.now in
    let plan = c.args.plan.now in
    let sound = c.requires.sound in
    let start = run s (map event_in plan) in
    let reached = planned-reached s plan in
    let P : List Event → Type 0 = λ events. SplitStandsFor s (run s (map event_in events)) c.play.new.self in
    let played : P plan = subst P c.events.ensures.events (c.play.ensures.played s (split_start s) sound (start_reached s) c.in-Ok.ensures.stands) in
    let stands = c.to_boundary.ensures.stands s start sound reached played in
    let there = to_boundary s start in
    let there_reached = boundary-reached s start reached in
    let boundary = boundary-comes s start sound reached in
    let at : IsAt s (reach s (map event_in plan)) c.output.result.now c.committed-last.result = record {
      written = c.output.ensures.output
          ∙ stands_output s (mono s (reach s (map event_in plan))).arch _ (c.committed-last.ensures.contents s there sound there_reached stands boundary);
      reported = c.committed-last.ensures.reported s there sound there_reached stands boundary;
    } in
    let planned : IsAt s (planned_cycle s plan) c.output.result.now c.committed-last.result = at_planned s plan c.output.result.now c.committed-last.result at in
    c.finish_timed.ensures.ends (Single (Sched s plan)) (g.K.Sink.written c.args.sink.now) (g.K.Sink.faults c.args.sink.now) (λ on. refl)
    (ap status_for (at-end s (planned_cycle s plan) c.output.result.now c.committed-last.result planned))
    (at-text s (planned_cycle s plan) c.output.result.now c.committed-last.result planned)
    (none_put c.output.result.now (g.K.Sink.written c.args.sink.now) (g.K.Sink.faults c.args.sink.now))
