use Rattle.std.proofs.Common.{◌≡◌, ◌∙◌, ap, refl, subst, sym}
use Rattle.insight_model.specs.declared.pipeline.Pipeline.{Pipeline}
use Rattle.insight_model.specs.Sight.{Sight}
use Rattle.insight_model.specs.Trace.{trace_text}
use Rattle.report_text.specs.declared.status.Status.TheVariants.{Shown}
use Rattle.fsim_ports.specs.Sink.{Breaks, grown}
use Rattle.cycle_watch.specs.Known.{Watches}
use Rattle.fast_jobs.specs.declared.job.Job.TheVariants.{Single}
use Rattle.fast_jobs.specs.declared.job.SingleJob.TheVariants.{Trace}
use Rattle.fast_jobs.specs.Call.{writing_of}
use Rattle.fast_jobs.specs.Job.{CanWatch}
use Rattle.fast_jobs.proofs.Outcomes.{ends-broken, ends-reported}
use Rattle.fast_jobs.proofs.Watching.{first_cycle, first_window}
use Rattle.fast_jobs.proofs.tracing.trace_of.Goals as goal

pub new-requires : goal.new-requires
new-requires g c =
    let kind = g.M.Played.plays.pipeline in
    let s = c.args.setup.now in
    let seen = c.side.ensures.seen s 0 c.requires.starts in
    record {
      start = ap (λ (x : Sight). x.cycle) seen ∙ first_cycle kind s;
      empty = ap (λ (x : Sight). x.window) seen ∙ first_window kind s;
    }

pub traced-requires : goal.traced-requires
traced-requires g c =
    let s = c.args.setup.now in
    record {
      can = subst (λ (k : Pipeline). CanWatch k s) c.requires.kind c.requires.can;
      starts = c.requires.starts;
      fresh = c.in-Ok.ensures.fresh;
      watches = subst (λ (k : Pipeline). Watches k s.params c.in-Ok.tracing.last) c.requires.kind c.in-Ok.ensures.watches;
    }

pub returns-in-Ok-traced-clause-ends : goal.returns-in-Ok-traced-clause-ends
returns-in-Ok-traced-clause-ends g c =
    let s = c.args.setup.now in
    let writing = writing_of g.K.Sink.written g.K.Sink.faults c.args.sink.now c.traced.new.sink in
    let W : Pipeline → Type 0 = λ k. writing.after ≡ grown writing.before (trace_text k s s.cycles c.args.from c.args.to) in
    ends-reported (Single (Trace s c.args.pipeline c.args.from c.args.to)) (trace_text c.args.pipeline s s.cycles c.args.from c.args.to) writing Shown refl (λ on. cc) refl
    (subst W (sym c.requires.kind) c.in-Ok-traced.ensures.written)

pub returns-clause-ends : goal.returns-clause-ends
returns-clause-ends g c =
    let s = c.args.setup.now in
    let writing = writing_of g.K.Sink.written g.K.Sink.faults c.args.sink.now c.traced.new.sink in
    let B : Pipeline → Type 0 = λ k. Breaks (trace_text k s s.cycles c.args.from c.args.to) writing.faults.before writing.faults.after writing.before writing.after in
    ends-broken (Single (Trace s c.args.pipeline c.args.from c.args.to)) (trace_text c.args.pipeline s s.cycles c.args.from c.args.to) writing refl
    (subst B (sym c.requires.kind) c.in-Err-traced.ensures.written)
