use Rattle.std.proofs.Common.{◌≡◌, ◌∙◌, ◌+◌, ◌-◌, ◌≤◌, ◌<◌, ℕ, true, false, ap, length, max, refl, sym, subst, arith}
use Rattle.mono_model.specs.declared.params.Params.{Params}
use Rattle.mono_model.specs.Final.{has_ended}
use Rattle.mono_model.specs.Report.{joined}
use Rattle.mono_model.proofs.Sound.{setup_facts}
use Rattle.insight_model.specs.declared.pipeline.Pipeline.{Pipeline}
use Rattle.insight_model.specs.Facts.{departed}
use Rattle.insight_model.specs.Sight.{Sight}
use Rattle.insight_model.specs.Trace.{last_cycle, opened, trace_text}
use Rattle.insight_laws.proofs.Sights.{EndsInorder}
use Rattle.cycle_watch.specs.Facts.{at_cycle}
use Rattle.cycle_watch.specs.Traced.{TracesAt, first_lines}
use Rattle.cycle_watch.specs.Writing.{HasBroken, HasPut, IsReady, stand}
use Rattle.fast_jobs.specs.Played.{sight_at}
use Rattle.fast_jobs.proofs.Traces.{breaks_err, cycle_at, departed_few, end_is, first_is, goes_both, head_broken, may_trace, not_end, one_broken, one_traced, opened_on, run_is, standing_at, stops_one, trace_broken, trace_put, window_few}
use Rattle.fast_jobs.proofs.Watching.{can_sound, went_there}
use Rattle.fast_jobs.proofs.tracing.traced.Goals as goal

pub play_to-requires : goal.play_to-requires
play_to-requires g c = record { playing = record { setup = c.args.setup.now; cycle = 0; starts = c.requires.starts } }

pub open-requires : goal.open-requires
open-requires g c =
    let kind = g.M.Played.plays.pipeline in
    let s = c.args.setup.now in
    let can = c.requires.can in
    let once : EndsInorder s = c.run_in_order_ends_once.ensures.ends s (setup_facts s (can_sound kind s can)).some_cycle in
    let comes = c.play_to.ensures.comes s c.requires.starts in
    let seen = c.side-2.ensures.seen s comes.cycle comes.starts in
    record {
      fresh = c.requires.fresh;
      within = omega (arith, ap (λ (x : Sight). length x.window) seen, window_few kind s comes.cycle can once);
      small = omega (arith, ap (λ (x : Sight). departed x) seen, departed_few kind s comes.cycle can once);
    }

pub loop-core-init : goal.loop-core-init
loop-core-init g c =
    let plays = g.M.Played.plays in
    let kind = plays.pipeline in
    let s = c.args.setup.now in
    let can = c.requires.can in
    let once : EndsInorder s = c.run_in_order_ends_once.ensures.ends s (setup_facts s (can_sound kind s can)).some_cycle in
    let comes = c.play_to.ensures.comes s c.requires.starts in
    let first = c.cycle-first.result in
    let shown = g.M.Side.Watched.sight c.side-2.result.now in
    let same = c.cycle-first.ensures.cycle ∙ ap (λ (x : Sight). x.cycle) (c.side.ensures.seen s comes.cycle comes.starts) in
    let watches = c.requires.watches in
    let T : Pipeline × Params → Type 0 = λ x. TracesAt x.0 x.1 (at_cycle first shown) (opened x.0 x.1 (first - 1) shown.window) c.open.new.self in
    let H : Pipeline × Params → Type 0 = λ x. HasPut (joined (first_lines x.0 x.1 (at_cycle first shown)))
    (stand c.args.tracing.now.text (g.K.Sink.faults c.args.sink.now) (g.K.Sink.written c.args.sink.now)) (stand c.open.new.self.text (g.K.Sink.faults c.open.new.sink) (g.K.Sink.written c.open.new.sink)) in
    opened_on plays s comes.cycle first c.max-last.result c.play_to.new.core shown c.open.new.self _ _ comes.starts (c.side-2.ensures.seen s comes.cycle comes.starts) same
    (cycle_at kind s comes.cycle can once comes.went) (omega (arith, c.max-last.ensures)) comes.went
    (subst T (λ i. (watches.pipeline i, watches.params i)) c.in_ok-open.ensures.stands) (subst H (λ i. (watches.pipeline i, watches.params i)) c.in_ok-open.ensures.written)

pub cycle_on-requires : goal.cycle_on-requires
cycle_on-requires g c = let on = c.loop-core.invariant in record { playing = record { setup = c.args.setup.now; cycle = on.at; starts = on.starts } }

pub look-requires : goal.look-requires
look-requires g c =
    let plays = g.M.Played.plays in
    let kind = plays.pipeline in
    let s = c.args.setup.now in
    let can = c.requires.can in
    let on = c.loop-core.invariant in
    let once : EndsInorder s = c.run_in_order_ends_once.ensures.ends s (setup_facts s (can_sound kind s can)).some_cycle in
    let goes = goes_both c.plays_on.result (has_ended (sight_at kind s on.at).end) _ c.max-last.result (c.plays_on.ensures.plays s on.at on.starts) c.loop-core-test.true in
    let shown = g.M.Side.Watched.sight c.side-in-loop-core.result.now in
    let is : shown ≡ sight_at kind s (on.at + 1) = c.side-in-loop-core.ensures.seen s (on.at + 1) (c.cycle_on.ensures.next s on.at on.starts goes.0) in
    record { standing = may_trace plays s c.cycle-first.result c.max-last.result c.loop-core.core c.loop-core.tracing _ _ on shown is (went_there kind s on.at shown is can once goes.0) }

pub loop-core-preserved : goal.loop-core-preserved
loop-core-preserved g c =
    let plays = g.M.Played.plays in
    let kind = plays.pipeline in
    let s = c.args.setup.now in
    let can = c.requires.can in
    let on = c.loop-core.invariant in
    let once : EndsInorder s = c.run_in_order_ends_once.ensures.ends s (setup_facts s (can_sound kind s can)).some_cycle in
    let goes = goes_both c.plays_on.result (has_ended (sight_at kind s on.at).end) _ c.max-last.result (c.plays_on.ensures.plays s on.at on.starts) c.loop-core-test.true in
    let starts = c.cycle_on.ensures.next s on.at on.starts goes.0 in
    let shown = g.M.Side.Watched.sight c.side-in-loop-core.result.now in
    let is : shown ≡ sight_at kind s (on.at + 1) = c.side-in-loop-core.ensures.seen s (on.at + 1) starts in
    let went = went_there kind s on.at shown is can once goes.0 in
    let here = sight_at kind s on.at in
    let less : on.at < c.max-last.result =
    omega (arith, goes.1, c.cycle.ensures.cycle, standing_at plays s c.cycle-first.result c.max-last.result c.loop-core.core c.loop-core.tracing _ _ on, cycle_at kind s on.at can once on.went) in
    one_traced plays s c.cycle-first.result c.max-last.result c.loop-core.core c.loop-core.tracing _ _ on shown is went c.cycle_on.new.self c.look.new.self _ starts less goes.0
    (c.in_ok-look.ensures.stands kind s.params here _ 0 on.traces went) (c.in_ok-look.ensures.written kind s.params here _ 0 on.traces went)

pub loop-core-smaller : goal.loop-core-smaller
loop-core-smaller g c =
    let plays = g.M.Played.plays in
    let kind = plays.pipeline in
    let s = c.args.setup.now in
    let can = c.requires.can in
    let on = c.loop-core.invariant in
    let once : EndsInorder s = c.run_in_order_ends_once.ensures.ends s (setup_facts s (can_sound kind s can)).some_cycle in
    let goes = goes_both c.plays_on.result (has_ended (sight_at kind s on.at).end) _ c.max-last.result (c.plays_on.ensures.plays s on.at on.starts) c.loop-core-test.true in
    let starts = c.cycle_on.ensures.next s on.at on.starts goes.0 in
    let shown = g.M.Side.Watched.sight c.side-in-loop-core.result.now in
    let is : shown ≡ sight_at kind s (on.at + 1) = c.side-in-loop-core.ensures.seen s (on.at + 1) starts in
    let went = went_there kind s on.at shown is can once goes.0 in
    let there = c.in_ok-look.ensures.stands kind s.params (sight_at kind s on.at) _ 0 on.traces went in
    omega (arith, goes.1, c.cycle.ensures.cycle, there.keeps.cycle, standing_at plays s c.cycle-first.result c.max-last.result c.loop-core.core c.loop-core.tracing _ _ on)

pub close-requires : goal.close-requires
close-requires g c =
    let plays = g.M.Played.plays in
    let s = c.args.setup.now in
    let on = c.loop-core.invariant in
    let traces = on.traces in
    let at = c.cycle-end.ensures.cycle ∙ standing_at plays s c.cycle-first.result c.max-last.result c.loop-core.core c.loop-core.tracing _ _ on in
    record { ready = subst (λ (n : ℕ). IsReady n c.loop-core.tracing.text) (sym at) traces.ready }

pub returns-clause-count : goal.returns-clause-count
returns-clause-count g c = omega (arith, c.loop-core.invariant.put.count, c.close.ensures.count)

pub returns-clause-written : goal.returns-clause-written
returns-clause-written g c =
    let plays = g.M.Played.plays in
    let kind = plays.pipeline in
    let s = c.args.setup.now in
    let can = c.requires.can in
    let some = (setup_facts s (can_sound kind s can)).some_cycle in
    let once : EndsInorder s = c.run_in_order_ends_once.ensures.ends s some in
    let run = run_is kind s (c.run_ends_once.ensures.ends s some) once in
    let comes = c.play_to.ensures.comes s c.requires.starts in
    let first = c.cycle-first.result in
    let last = c.max-last.result in
    let counted = cycle_at kind s comes.cycle can once comes.went in
    let same : first ≡ comes.cycle = c.cycle-first.ensures.cycle ∙ ap (λ (x : Sight). x.cycle) (c.side.ensures.seen s comes.cycle comes.starts) ∙ counted in
    let on = c.loop-core.invariant in
    let at = standing_at plays s first last c.loop-core.core c.loop-core.tracing _ _ on in
    let here = cycle_at kind s on.at can once on.went in
    let stops : on.at < last → has_ended (sight_at kind s on.at).end ≡ true =
    λ less. stops_one c.plays_on.result (has_ended (sight_at kind s on.at).end) c.cycle.result last (c.plays_on.ensures.plays s on.at on.starts) c.loop-core-test.false (omega (arith, less, c.cycle.ensures.cycle, at, here)) in
    let most : last ≡ max c.args.to first = c.max-last.ensures in
    trace_put plays s c.args.from c.args.to run.0 comes.cycle first last run.1 comes.within comes.went comes.ended same most c.loop-core.core c.loop-core.tracing _ _ on c.cycle-end.result
    (g.K.Sink.faults c.close.new.sink) (g.K.Sink.written c.close.new.sink) c.close.result c.requires.fresh.held
    (end_is plays s c.args.from c.args.to run.0 comes.cycle first last run.1 comes.within comes.went comes.ended same most c.loop-core.core c.loop-core.tracing _ _ on stops)
    (c.cycle-end.ensures.cycle ∙ at ∙ here) refl c.close.ensures.written

pub returns-in_err-open-clause-count : goal.returns-in_err-open-clause-count
returns-in_err-open-clause-count g c = omega (arith, c.in_err-open.ensures.written.count)

pub returns-in_err-open-clause-written : goal.returns-in_err-open-clause-written
returns-in_err-open-clause-written g c =
    let plays = g.M.Played.plays in
    let kind = plays.pipeline in
    let s = c.args.setup.now in
    let can = c.requires.can in
    let some = (setup_facts s (can_sound kind s can)).some_cycle in
    let once : EndsInorder s = c.run_in_order_ends_once.ensures.ends s some in
    let run = run_is kind s (c.run_ends_once.ensures.ends s some) once in
    let comes = c.play_to.ensures.comes s c.requires.starts in
    let first = c.cycle-first.result in
    let last = c.max-last.result in
    let counted = cycle_at kind s comes.cycle can once comes.went in
    let same : first ≡ comes.cycle = c.cycle-first.ensures.cycle ∙ ap (λ (x : Sight). x.cycle) (c.side.ensures.seen s comes.cycle comes.starts) ∙ counted in
    let begin = first_is plays s c.args.from c.args.to run.0 comes.cycle first last run.1 comes.within comes.went comes.ended same c.max-last.ensures in
    let watches = c.requires.watches in
    let shown = g.M.Side.Watched.sight c.side-2.result.now in
    let before = stand c.args.tracing.now.text (g.K.Sink.faults c.args.sink.now) (g.K.Sink.written c.args.sink.now) in
    let now = stand c.open.new.self.text (g.K.Sink.faults c.open.new.sink) (g.K.Sink.written c.open.new.sink) in
    let H : Pipeline × Params → Type 0 = λ x. HasBroken (joined (first_lines x.0 x.1 (at_cycle first shown))) before now in
    let broke = subst H (λ i. (watches.pipeline i, watches.params i)) c.in_err-open.ensures.written in
    let seen = c.side-2.ensures.seen s comes.cycle comes.starts in
    let there : at_cycle first shown ≡ sight_at kind s first =
    (λ i. at_cycle ((same ∙ sym counted) i) (seen i)) ∙ ap (sight_at kind s) (sym same) in
    breaks_err _ (trace_text kind s s.cycles c.args.from c.args.to) before.faults now.faults before.written now.written c.from_residual.result c.from_residual.ensures.1
    (head_broken kind s c.args.from c.args.to run.0 first before now run.1 begin c.requires.fresh.held
    (subst (λ (x : Sight). HasBroken (joined (first_lines kind s.params x)) before now) there broke))

pub returns-in_err-look-clause-count : goal.returns-in_err-look-clause-count
returns-in_err-look-clause-count g c =
    let plays = g.M.Played.plays in
    let kind = plays.pipeline in
    let s = c.args.setup.now in
    let can = c.requires.can in
    let on = c.loop-core.invariant in
    let once : EndsInorder s = c.run_in_order_ends_once.ensures.ends s (setup_facts s (can_sound kind s can)).some_cycle in
    let goes = goes_both c.plays_on.result (has_ended (sight_at kind s on.at).end) _ c.max-last.result (c.plays_on.ensures.plays s on.at on.starts) c.loop-core-test.true in
    let starts = c.cycle_on.ensures.next s on.at on.starts goes.0 in
    let shown = g.M.Side.Watched.sight c.side-in-loop-core.result.now in
    let is : shown ≡ sight_at kind s (on.at + 1) = c.side-in-loop-core.ensures.seen s (on.at + 1) starts in
    let went = went_there kind s on.at shown is can once goes.0 in
    let broke = c.in_err-look.ensures.written kind s.params (sight_at kind s on.at) _ 0 on.traces went in
    omega (arith, on.put.count, broke.count)

pub returns-in_err-look-clause-written : goal.returns-in_err-look-clause-written
returns-in_err-look-clause-written g c =
    let plays = g.M.Played.plays in
    let kind = plays.pipeline in
    let s = c.args.setup.now in
    let can = c.requires.can in
    let some = (setup_facts s (can_sound kind s can)).some_cycle in
    let once : EndsInorder s = c.run_in_order_ends_once.ensures.ends s some in
    let run = run_is kind s (c.run_ends_once.ensures.ends s some) once in
    let comes = c.play_to.ensures.comes s c.requires.starts in
    let first = c.cycle-first.result in
    let last = c.max-last.result in
    let counted = cycle_at kind s comes.cycle can once comes.went in
    let same : first ≡ comes.cycle = c.cycle-first.ensures.cycle ∙ ap (λ (x : Sight). x.cycle) (c.side.ensures.seen s comes.cycle comes.starts) ∙ counted in
    let most : last ≡ max c.args.to first = c.max-last.ensures in
    let on = c.loop-core.invariant in
    let goes = goes_both c.plays_on.result (has_ended (sight_at kind s on.at).end) _ last (c.plays_on.ensures.plays s on.at on.starts) c.loop-core-test.true in
    let starts = c.cycle_on.ensures.next s on.at on.starts goes.0 in
    let shown = g.M.Side.Watched.sight c.side-in-loop-core.result.now in
    let is : shown ≡ sight_at kind s (on.at + 1) = c.side-in-loop-core.ensures.seen s (on.at + 1) starts in
    let went = went_there kind s on.at shown is can once goes.0 in
    let here = sight_at kind s on.at in
    let less : on.at < last = omega (arith, goes.1, c.cycle.ensures.cycle, standing_at plays s first last c.loop-core.core c.loop-core.tracing _ _ on, cycle_at kind s on.at can once on.went) in
    let before = stand c.args.tracing.now.text (g.K.Sink.faults c.args.sink.now) (g.K.Sink.written c.args.sink.now) in
    let now = stand c.look.new.self.text (g.K.Sink.faults c.look.new.sink) (g.K.Sink.written c.look.new.sink) in
    let fit = not_end plays s c.args.from c.args.to run.0 comes.cycle first last run.1 comes.within comes.went comes.ended same most c.loop-core.core c.loop-core.tracing _ _ on goes.0 less in
    let broke = c.in_err-look.ensures.written kind s.params here _ 0 on.traces went in
    breaks_err _ (trace_text kind s s.cycles c.args.from c.args.to) before.faults now.faults before.written now.written c.from_residual-in_err-look.result c.from_residual-in_err-look.ensures.1
    (trace_broken plays s c.args.from c.args.to run.0 comes.cycle first last run.1 comes.within comes.went comes.ended same most c.loop-core.core c.loop-core.tracing _ _ on now c.requires.fresh.held
    (one_broken plays s first last c.loop-core.core c.loop-core.tracing _ _ on shown is went (last_cycle (run.0) c.args.from c.args.to) now fit broke))
