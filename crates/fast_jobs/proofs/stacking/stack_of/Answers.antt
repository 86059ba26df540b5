use Rattle.std.proofs.Common.{◌≡◌, ◌∙◌, [], ap, subst, sym, arith}
use Rattle.mono_model.proofs.Sound.{setup_facts}
use Rattle.insight_model.specs.declared.pipeline.Pipeline.{Pipeline}
use Rattle.insight_model.specs.Cycles.{cycles, known_start}
use Rattle.insight_model.specs.Sight.{Sight}
use Rattle.report_text.specs.declared.stack.StackCounts.{StackCounts}
use Rattle.cycle_watch.specs.Counted.{IsStackOf}
use Rattle.cycle_watch.specs.Known.{StandsAt}
use Rattle.fast_jobs.specs.declared.job.Job.TheVariants.{Single}
use Rattle.fast_jobs.specs.declared.job.SingleJob.TheVariants.{Stack}
use Rattle.fast_jobs.specs.Call.{writing_of}
use Rattle.fast_jobs.specs.Job.{CanWatch}
use Rattle.fast_jobs.specs.Played.{final_of, output_of}
use Rattle.fast_jobs.proofs.Outcomes.{ends-broken, ends-reported}
use Rattle.fast_jobs.proofs.Stacks.{stack_may_end, stack_status, stack_written}
use Rattle.fast_jobs.proofs.Watching.{can_sound, first_cycle, first_window}
use Rattle.fast_jobs.proofs.stacking.stack_of.Goals as goal

pub new-requires : goal.new-requires
new-requires g c =
    let kind = g.M.Played.plays.pipeline in
    let s = c.args.setup.now in
    let seen = c.side.ensures.seen s 0 c.requires.starts in
    record {
      start = ap (λ (x : Sight). x.cycle) seen ∙ first_cycle kind s;
      empty = ap (λ (x : Sight). x.window) seen ∙ first_window kind s;
    }

pub stack_cycles-requires : goal.stack_cycles-requires
stack_cycles-requires g c =
    let kind = g.M.Played.plays.pipeline in
    let s = c.args.setup.now in
    let seen = c.side.ensures.seen s 0 c.requires.starts in
    let stacking = c.in-Ok.stacking in
    let shown = g.M.Side.Watched.sight c.side.result.now in
    let S : Pipeline → Type 0 = λ k. StandsAt k s.params shown (known_start s.image.entry) stacking.heads in
    let N : Pipeline → Type 0 = λ k. IsStackOf k s.params [] stacking.counts in
    let T : Sight → Type 0 = λ x. StandsAt kind s.params x (known_start s.image.entry) stacking.heads in
    record {
      can = subst (λ (k : Pipeline). CanWatch k s) c.requires.kind c.requires.can;
      starts = c.requires.starts;
      stands = subst T seen (subst S c.requires.kind c.in-Ok.ensures.stands);
      none = subst N c.requires.kind c.in-Ok.ensures.counted;
    }

pub to_end-requires : goal.to_end-requires
to_end-requires g c =
    let playing = c.stack_cycles.ensures.playing in
    record { playing = record { setup = c.args.setup.now; cycle = playing.cycle; starts = playing.starts } }

pub committed-last-requires : goal.committed-last-requires
committed-last-requires g c =
    let playing = c.stack_cycles.ensures.playing in
    record { ended = record { setup = c.args.setup.now; ended = c.to_end.ensures.ended c.args.setup.now playing.cycle playing.starts } }

pub put_stack-requires : goal.put_stack-requires
put_stack-requires g c =
    let s = c.args.setup.now in
    let facts = setup_facts s (can_sound c.args.pipeline s c.requires.can) in
    record { width = omega (arith, facts.commit) }

pub returns-in-Ok-put_stack-clause-ends : goal.returns-in-Ok-put_stack-clause-ends
returns-in-Ok-put_stack-clause-ends g c =
    let kind = g.M.Played.plays.pipeline in
    let s = c.args.setup.now in
    let pipeline = c.args.pipeline in
    let playing = c.stack_cycles.ensures.playing in
    let ended = c.to_end.ensures.ended s playing.cycle playing.starts in
    let last = c.committed-last.result in
    let output = c.output.result.now in
    let counts = c.counts-counts.result.now in
    let told : last ≡ final_of pipeline s = c.committed-last.ensures.last s ended ∙ ap (λ (k : Pipeline). final_of k s) (sym c.requires.kind) in
    let wrote : output ≡ output_of pipeline s = c.output.ensures.output s (c.committed-last.ensures.reported s ended) ∙ ap (λ (k : Pipeline). output_of k s) (sym c.requires.kind) in
    let sound = can_sound pipeline s c.requires.can in
    let some = (setup_facts s sound).some_cycle in
    let N : Pipeline → Type 0 = λ k. IsStackOf k s.params (cycles k s s.cycles) c.stack_cycles.new.stacking.counts in
    let stacked = subst N (sym c.requires.kind) c.stack_cycles.ensures.counted in
    let same = stack_written pipeline s output last wrote told counts sound (subst (λ (n : StackCounts). IsStackOf pipeline s.params (cycles pipeline s s.cycles) n) (sym c.counts-counts.ensures.counts) stacked) in
    ends-reported (Single (Stack s pipeline)) _ (writing_of g.K.Sink.written g.K.Sink.faults c.args.sink.now c.put_stack.new.sink) c.status_for.result
    (c.status_for.ensures.status ∙ sym (stack_status pipeline s output last wrote told))
    (stack_may_end pipeline s (c.run_ends_once.ensures.ends s some) (c.run_in_order_ends_once.ensures.ends s some))
    same c.in-Ok-put_stack.ensures.written

pub returns-clause-ends : goal.returns-clause-ends
returns-clause-ends g c =
    let kind = g.M.Played.plays.pipeline in
    let s = c.args.setup.now in
    let pipeline = c.args.pipeline in
    let playing = c.stack_cycles.ensures.playing in
    let ended = c.to_end.ensures.ended s playing.cycle playing.starts in
    let last = c.committed-last.result in
    let output = c.output.result.now in
    let counts = c.counts-counts.result.now in
    let told : last ≡ final_of pipeline s = c.committed-last.ensures.last s ended ∙ ap (λ (k : Pipeline). final_of k s) (sym c.requires.kind) in
    let wrote : output ≡ output_of pipeline s = c.output.ensures.output s (c.committed-last.ensures.reported s ended) ∙ ap (λ (k : Pipeline). output_of k s) (sym c.requires.kind) in
    let sound = can_sound pipeline s c.requires.can in
    let N : Pipeline → Type 0 = λ k. IsStackOf k s.params (cycles k s s.cycles) c.stack_cycles.new.stacking.counts in
    let stacked = subst N (sym c.requires.kind) c.stack_cycles.ensures.counted in
    let same = stack_written pipeline s output last wrote told counts sound (subst (λ (n : StackCounts). IsStackOf pipeline s.params (cycles pipeline s s.cycles) n) (sym c.counts-counts.ensures.counts) stacked) in
    ends-broken (Single (Stack s pipeline)) _ (writing_of g.K.Sink.written g.K.Sink.faults c.args.sink.now c.put_stack.new.sink)
    same c.in-Err-put_stack.ensures.written
