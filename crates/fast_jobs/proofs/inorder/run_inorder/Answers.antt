use Rattle.std.proofs.Common.{map, List, refl, ap, ◌∙◌, subst}
use Rattle.mono_model.specs.Report.{report_text}
use Rattle.mono_model.proofs.Sound.{setup_facts}
use Rattle.inorder_machine.specs.Cycle.{inorder, inorder_final, inorder_text}
use Rattle.inorder_machine.specs.Split.{inorder_split_start, inorder_run}
use Rattle.inorder_laws.specs.SplitLaw.{IsInorderReached}
use Rattle.inorder_laws.proofs.SplitRun.{start_inorder_reached}
use Rattle.func_model.proofs.Walking.{stands_output}
use Rattle.split_core.specs.declared.event.Event.{Event}
use Rattle.split_core.specs.Events.{event_in}
use Rattle.inorder_model.specs.Core.{InorderSplitStandsFor}
use Rattle.fast_jobs.specs.declared.job.Job.TheVariants.{Single}
use Rattle.fast_jobs.specs.declared.job.SingleJob.TheVariants.{Inorder}
use Rattle.fast_jobs.specs.Call.{writing_of}
use Rattle.fast_jobs.specs.Outcome.{status_for}
use Rattle.fast_jobs.proofs.Putting.{first_breaks, has_put}
use Rattle.fast_jobs.proofs.Outcomes.{ends-broken, running-end}
use Rattle.fast_jobs.proofs.Ending.{not_running}
use Rattle.sweep_runs.proofs.InorderLast.{IsLast, last-place}
use Rattle.fast_jobs.proofs.InorderEnding.{IsInorderAt, inorder-end, inorder-text, inorder_at-limit}
use Rattle.fast_jobs.proofs.inorder.run_inorder.Goals as goal

pub returns-in-Ok-play_inorder-clause-ends : goal.returns-in-Ok-play_inorder-clause-ends
returns-in-Ok-play_inorder-clause-ends g c =
    let s = c.args.setup.now in
    let plan = c.args.plan.now in
    let sound = c.requires.sound in
    let reached : IsInorderReached s (inorder_run s (map event_in plan)) = record { events = map event_in plan; is = refl } in
    let P : List Event → Type 0 = λ events. InorderSplitStandsFor s (inorder_run s (map event_in events)) c.play.new.self in
    let played : P plan = subst P c.events.ensures.events (c.play.ensures.played s (inorder_split_start s) sound (start_inorder_reached s) c.in-Ok.ensures.stands) in
    let ended = c.in-Ok-play_inorder.ensures.ended s (inorder_run s (map event_in plan)) sound reached played in
    let put = c.in-Ok-play_inorder.ensures.put s (inorder_run s (map event_in plan)) sound reached played in
    let cycle = ended.split.place.run.demand.machine.cycle in
    let last : IsLast s cycle = last-place s ended.split.place (setup_facts s sound.sound).some_cycle ended.place ended.inorder in
    let there : IsInorderAt s cycle c.output.result.now c.committed-last.result = record {
      written = c.output.ensures.output
          ∙ stands_output s (inorder s cycle).machine.arch _ (c.committed-last.ensures.contents s ended.split sound ended.reached ended.stands ended.boundary);
      reported = c.committed-last.ensures.reported s ended.split sound ended.reached ended.stands ended.boundary;
    } in
    let at : IsInorderAt s s.cycles c.output.result.now c.committed-last.result = inorder_at-limit s cycle c.output.result.now c.committed-last.result last there in
    c.finish_timed.ensures.ends (Single (Inorder s plan)) (g.K.Sink.written c.args.sink.now) (g.K.Sink.faults c.args.sink.now)
    (λ on. absurd (not_running (inorder s s.cycles).machine.end last.over (running-end (inorder s s.cycles).machine.end on)))
    (ap status_for (inorder-end s s.cycles c.output.result.now c.committed-last.result at))
    (inorder-text s s.cycles c.output.result.now c.committed-last.result at)
    (has_put (inorder s s.cycles).machine.arch.output c.output.result.now c.in-Ok-play_inorder.put _ _ _ _ at.written c.play_inorder.ensures.count put.1)

pub returns-clause-ends : goal.returns-clause-ends
unfolding inorder_text
returns-clause-ends g c =
    let s = c.args.setup.now in
    let plan = c.args.plan.now in
    let sound = c.requires.sound in
    let reached : IsInorderReached s (inorder_run s (map event_in plan)) = record { events = map event_in plan; is = refl } in
    let P : List Event → Type 0 = λ events. InorderSplitStandsFor s (inorder_run s (map event_in events)) c.play.new.self in
    let played : P plan = subst P c.events.ensures.events (c.play.ensures.played s (inorder_split_start s) sound (start_inorder_reached s) c.in-Ok.ensures.stands) in
    let writing = writing_of g.K.Sink.written g.K.Sink.faults c.args.sink.now c.play_inorder.new.sink in
    ends-broken (Single (Inorder s plan)) (inorder_text s s.cycles) writing refl
    (first_breaks (inorder s s.cycles).machine.arch.output (report_text (inorder_final s s.cycles)) writing.faults.before writing.faults.after writing.before writing.after
    (c.in-Err-play_inorder.ensures.put s (inorder_run s (map event_in plan)) sound reached played))
