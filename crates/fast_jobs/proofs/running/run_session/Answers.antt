use Rattle.std.proofs.Common.{◌≡◌, true, ap, ◌∙◌}
use Rattle.mono_model.specs.declared.setup.Setup.{Setup}
use Rattle.mono_model.specs.Final.{has_ended}
use Rattle.mono_model.specs.Machine.{Machine}
use Rattle.mono_model.specs.Cycle.{mono, final}
use Rattle.fast_jobs.specs.declared.job.Job.TheVariants.{Single}
use Rattle.fast_jobs.specs.declared.job.SingleJob.TheVariants.{Run}
use Rattle.mono_model.proofs.Sound.{setup_facts}
use Rattle.fast_jobs.specs.Outcome.{status_for}
use Rattle.fast_jobs.proofs.Putting.{none_put}
use Rattle.fast_jobs.proofs.Outcomes.{running-end}
use Rattle.fast_jobs.proofs.Ending.{IsAt, at-end, at-text, not_running}
use Rattle.fast_jobs.proofs.running.run_session.Goals as goal

pub returns-clause-ends : goal.returns-clause-ends
returns-clause-ends g c =
    let s = c.args.setup.now in
    let same : c.run.new.self.setup ≡ s = c.run.ensures.setup ∙ c.in-Ok.ensures.setup in
    let at : IsAt s s.cycles c.output.result.now c.result-last.result = record {
      written = c.output.ensures.output ∙ ap (λ (u : Setup). (mono u u.cycles).arch.output) same;
      reported = c.result-last.ensures.reported ∙ ap (λ (u : Setup). final u u.cycles) same;
    } in
    let once = c.run_ends_once.ensures.ends s (setup_facts s c.requires.sound).some_cycle in
    let ended : has_ended (mono s s.cycles).end ≡ true =
    ap (λ (m : Machine). has_ended m.end) (once.still s.cycles once.within) ∙ once.first.ended in
    c.finish_timed.ensures.ends (Single (Run s)) (g.S.Sink.written c.args.sink.now) (g.S.Sink.faults c.args.sink.now)
    (λ on. absurd (not_running (mono s s.cycles).end ended (running-end (mono s s.cycles).end on)))
    (ap status_for (at-end s s.cycles c.output.result.now c.result-last.result at))
    (at-text s s.cycles c.output.result.now c.result-last.result at)
    (none_put c.output.result.now (g.S.Sink.written c.args.sink.now) (g.S.Sink.faults c.args.sink.now))
