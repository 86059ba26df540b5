use Rattle.std.proofs.Common.{◌++◌, List, ℕ, refl, ap, sym, ◌∙◌, arith}
use Rattle.mono_model.specs.Alone.{alone_final}
use Rattle.mono_model.specs.Report.{func_report_text}
use Rattle.mono_model.proofs.Sound.{setup_facts}
use Rattle.report_text.specs.FuncText.{func_text}
use Rattle.fast_jobs.specs.declared.job.Job.TheVariants.{Single}
use Rattle.fast_jobs.specs.declared.job.SingleJob.TheVariants.{Func}
use Rattle.fast_jobs.specs.Call.{writing_of}
use Rattle.fast_jobs.specs.Outcome.{whole_run, status_for}
use Rattle.fast_jobs.proofs.Putting.{first_breaks, has_put}
use Rattle.fast_jobs.proofs.Outcomes.{ends-broken, running-end}
use Rattle.fast_jobs.proofs.Ends.{whole_run-ended, whole_run-end, whole_run-text}
use Rattle.fast_jobs.proofs.running.run_alone.Goals as goal

pub play_alone-requires : goal.play_alone-requires
play_alone-requires g c = record { standing = record { setup = c.args.setup.now; number = 0; stands = c.in-Ok.ensures.stands } }

pub returns-in-Ok-play_alone-clause-ends : goal.returns-in-Ok-play_alone-clause-ends
unfolding whole_run
returns-in-Ok-play_alone-clause-ends g c =
    let s = c.args.setup.now in
    let opened = c.in-Ok.ensures.stands in
    let played = c.in-Ok-play_alone.ensures.ended s refl opened in
    let last = c.report.ensures.reported s s.cycles played in
    let output = c.output.ensures.output s s.cycles played in
    c.finish_alone.ensures.ends (Single (Func s)) (g.K.Sink.written c.args.sink.now) (g.K.Sink.faults c.args.sink.now)
    (λ on. absurd (whole_run-ended s (omega (arith, (setup_facts s c.requires.sound).some_cycle)) (running-end (whole_run s).end on)))
    (ap status_for (whole_run-end s c.report.result last))
    (whole_run-text s c.output.result.now c.report.result output last)
    (has_put (whole_run s).arch.output c.output.result.now c.in-Ok-play_alone.put _ _ _ _ output c.play_alone.ensures.count (c.in-Ok-play_alone.ensures.put s refl opened).1)

pub returns-clause-ends : goal.returns-clause-ends
unfolding whole_run func_text
returns-clause-ends g c =
    let s = c.args.setup.now in
    let run = whole_run s in
    let writing = writing_of g.K.Sink.written g.K.Sink.faults c.args.sink.now c.play_alone.new.sink in
    ends-broken (Single (Func s)) (func_text s) writing refl
    (first_breaks run.arch.output (func_report_text (alone_final run)) writing.faults.before writing.faults.after writing.before writing.after
    (c.in-Err-play_alone.ensures.put s refl c.in-Ok.ensures.stands))
