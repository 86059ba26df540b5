use Rattle.std.proofs.Common.{◌≡◌, ◌∙◌, ◌≤◌, [], ap, length, refl, subst, sym, arith}
use Rattle.mono_model.specs.Setup.{caches_params}
use Rattle.mono_model.proofs.Sound.{setup_facts}
use Rattle.insight_model.specs.declared.pipeline.Pipeline.{Pipeline}
use Rattle.insight_model.specs.Cycles.{cycles, known_start}
use Rattle.insight_model.specs.Profile.{profile_of, profile_text}
use Rattle.insight_model.specs.Sight.{Sight}
use Rattle.report_text.specs.declared.status.Status.TheVariants.{Shown}
use Rattle.cycle_watch.specs.Known.{StandsAt}
use Rattle.cycle_watch.specs.Profiled.{IsProfileOf}
use Rattle.fast_jobs.specs.declared.job.Job.TheVariants.{Single}
use Rattle.fast_jobs.specs.declared.job.SingleJob.TheVariants.{Profile}
use Rattle.fast_jobs.specs.Call.{writing_of}
use Rattle.fast_jobs.specs.Job.{CanWatch}
use Rattle.fast_jobs.proofs.Outcomes.{ends-broken, ends-reported}
use Rattle.fast_jobs.proofs.Watching.{can_sound, first_cycle, first_window}
use Rattle.fast_jobs.proofs.profiling.profile_of.Goals as goal

pub new-requires : goal.new-requires
new-requires g c =
    let kind = g.M.Played.plays.pipeline in
    let s = c.args.setup.now in
    let seen = c.side.ensures.seen s 0 c.requires.starts in
    record {
      sound = can_sound c.args.pipeline s c.requires.can;
      start = ap (λ (x : Sight). x.cycle) seen ∙ first_cycle kind s;
      empty = ap (λ (x : Sight). x.window) seen ∙ first_window kind s;
    }

pub profile_cycles-requires : goal.profile_cycles-requires
profile_cycles-requires g c =
    let kind = g.M.Played.plays.pipeline in
    let s = c.args.setup.now in
    let seen = c.side.ensures.seen s 0 c.requires.starts in
    let profiling = c.in-Ok.profiling in
    let shown = g.M.Side.Watched.sight c.side.result.now in
    let S : Pipeline → Type 0 = λ k. StandsAt k s.params shown (known_start s.image.entry) profiling.heads in
    let N : Pipeline → Type 0 = λ k. IsProfileOf s.image (caches_params s.params) k [] profiling in
    let T : Sight → Type 0 = λ x. StandsAt kind s.params x (known_start s.image.entry) profiling.heads in
    record {
      can = subst (λ (k : Pipeline). CanWatch k s) c.requires.kind c.requires.can;
      starts = c.requires.starts;
      stands = subst T seen (subst S c.requires.kind c.in-Ok.ensures.stands);
      none = subst N c.requires.kind c.in-Ok.ensures.profiled;
    }

pub returns-in-Ok-write-clause-ends : goal.returns-in-Ok-write-clause-ends
unfolding profile_text
returns-in-Ok-write-clause-ends g c =
    let s = c.args.setup.now in
    let pipeline = c.args.pipeline in
    let facts = setup_facts s (can_sound pipeline s c.requires.can) in
    let N : Pipeline → Type 0 = λ k. IsProfileOf s.image (caches_params s.params) k (cycles k s s.cycles) c.profile_cycles.new.profiling in
    let F : Pipeline → Type 0 = λ k. length (cycles k s s.cycles) ≤ s.cycles in
    let profiled = subst N (sym c.requires.kind) c.profile_cycles.ensures.profiled in
    let few = subst F (sym c.requires.kind) c.profile_cycles.ensures.few in
    ends-reported (Single (Profile s pipeline)) (profile_of pipeline s (cycles pipeline s s.cycles)) (writing_of g.K.Sink.written g.K.Sink.faults c.args.sink.now c.write.new.sink) Shown refl (λ on. cc)
    refl (c.in-Ok-write.ensures.written s pipeline (cycles pipeline s s.cycles) profiled (omega (arith, few, facts.cycles)))

pub returns-clause-ends : goal.returns-clause-ends
unfolding profile_text
returns-clause-ends g c =
    let s = c.args.setup.now in
    let pipeline = c.args.pipeline in
    let facts = setup_facts s (can_sound pipeline s c.requires.can) in
    let N : Pipeline → Type 0 = λ k. IsProfileOf s.image (caches_params s.params) k (cycles k s s.cycles) c.profile_cycles.new.profiling in
    let F : Pipeline → Type 0 = λ k. length (cycles k s s.cycles) ≤ s.cycles in
    let profiled = subst N (sym c.requires.kind) c.profile_cycles.ensures.profiled in
    let few = subst F (sym c.requires.kind) c.profile_cycles.ensures.few in
    ends-broken (Single (Profile s pipeline)) (profile_of pipeline s (cycles pipeline s s.cycles)) (writing_of g.K.Sink.written g.K.Sink.faults c.args.sink.now c.write.new.sink)
    refl (c.in-Err-write.ensures.written s pipeline (cycles pipeline s s.cycles) profiled (omega (arith, few, facts.cycles)))
