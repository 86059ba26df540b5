use Rattle.std.proofs.Common.{ℕ, List, refl}
use Rattle.report_text.specs.declared.status.Status.TheVariants.{Shown}
use Rattle.back_debug.specs.Session.{position_of, session_text}
use Rattle.fast_jobs.specs.declared.job.Job.TheVariants.{Single}
use Rattle.fast_jobs.specs.declared.job.SingleJob.TheVariants.{Back}
use Rattle.fast_jobs.specs.Call.{writing_of}
use Rattle.fast_jobs.proofs.Outcomes.{ends-broken, ends-reported}
use Rattle.fast_jobs.proofs.Scripts.{opening-text}
use Rattle.fast_jobs.proofs.script.run_script.Goals as goal

pub returns-in-Ok-play-clause-ends : goal.returns-in-Ok-play-clause-ends
returns-in-Ok-play-clause-ends g c =
    let s = c.args.setup.now in
    let script = c.args.script.now in
    let debugger = c.in-Ok.debugger in
    let text : List ℕ = session_text debugger.steps.capacity s script (position_of debugger) in
    ends-reported (Single (Back s c.args.history script)) text (writing_of g.K.Sink.written g.K.Sink.faults c.args.sink.now c.play.new.sink) Shown refl (λ on. cc)
    (opening-text c.args.history s script debugger c.in-Ok.ensures.opening) (c.in-Ok-play.ensures.written s c.in-Ok.ensures.stands)

pub returns-clause-ends : goal.returns-clause-ends
returns-clause-ends g c =
    let s = c.args.setup.now in
    let script = c.args.script.now in
    let debugger = c.in-Ok.debugger in
    let text : List ℕ = session_text debugger.steps.capacity s script (position_of debugger) in
    ends-broken (Single (Back s c.args.history script)) text (writing_of g.K.Sink.written g.K.Sink.faults c.args.sink.now c.play.new.sink)
    (opening-text c.args.history s script debugger c.in-Ok.ensures.opening) (c.in-Err-play.ensures.written s c.in-Ok.ensures.stands)
