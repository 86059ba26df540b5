use Rattle.std.proofs.Common.{◌≡◌, ℕ, List, ◌∙◌, ap, arith}
use Rattle.std.proofs.lemmas.Result.{err_from_is_err_and}
use Rattle.mono_model.specs.Cycle.{mono}
use Rattle.mono_model.specs.Split.{played}
use Rattle.machine_laws.specs.Reached.{IsReached}
use Rattle.machine_laws.proofs.SplitEvents.{played_keeps}
use Rattle.machine_laws.proofs.SplitReached.{event_reached}
use Rattle.fast_jobs.proofs.Putting.{breaks_more, grown_none, puts_more}
use Rattle.fast_jobs.proofs.early.play_pieces.Goals as goal

pub loop-init : goal.loop-init
loop-init g c = record {
  count = omega arith;
  going = c.requires.going;
  on = λ s x sound reached h. record { split = x; reached = reached; stands = h };
  written = λ s x sound reached h. grown_none (g.K.Sink.written c.args.sink.now);
}

pub returns-then-is_over-clause-put : goal.returns-then-is_over-clause-put
returns-then-is_over-clause-put g c = λ s x sound reached h. (omega arith, c.loop.invariant.written s x sound reached h)

pub returns-in_err-put-clause-put : goal.returns-in_err-put-clause-put
returns-in_err-put-clause-put g c = λ s x sound reached h.
    let left = err_from_is_err_and c.from_residual.result c.from_residual.ensures.1 in
    let whole : List ℕ = (mono s s.cycles).arch.output in
    let at = c.loop.invariant.on s x sound reached h in
    let on = c.go_on.ensures.played s at.split sound at.reached at.stands in
    let told = c.committed_output.ensures.committed s (played s on.events at.split) sound (played_keeps s (IsReached s) (event_reached s) on.events at.split at.reached) on.stands in
    rw (left.1) (breaks_more whole c.loop.put (g.K.Sink.faults c.args.sink.now) (g.K.Sink.faults c.loop.sink) (g.K.Sink.faults c.put_new.new.sink)
    (g.K.Sink.written c.args.sink.now) (g.K.Sink.written c.loop.sink) (g.K.Sink.written c.put_new.new.sink)
    (c.loop.invariant.written s x sound reached h) c.loop.invariant.count (c.in_err-put.ensures.put whole told.begins))

pub loop-preserved : goal.loop-preserved
loop-preserved g c = record {
  count = omega (arith, c.loop.invariant.count, c.put_new.ensures.count);
  going = c.go_on.ensures.going;
  on = λ s x sound reached h.
      let at = c.loop.invariant.on s x sound reached h in
      let on = c.go_on.ensures.played s at.split sound at.reached at.stands in
      record {
        split = played s on.events at.split;
        reached = played_keeps s (IsReached s) (event_reached s) on.events at.split at.reached;
        stands = on.stands;
      };
  written = λ s x sound reached h.
      let whole : List ℕ = (mono s s.cycles).arch.output in
      let at = c.loop.invariant.on s x sound reached h in
      let on = c.go_on.ensures.played s at.split sound at.reached at.stands in
      let told = c.committed_output.ensures.committed s (played s on.events at.split) sound (played_keeps s (IsReached s) (event_reached s) on.events at.split at.reached) on.stands in
      let puts = c.in_ok-put.ensures.put whole told.begins in
      puts_more whole c.loop.put c.in_ok-put.put (g.K.Sink.written c.args.sink.now) (g.K.Sink.written c.loop.sink) (g.K.Sink.written c.put_new.new.sink)
      puts.0 (c.loop.invariant.written s x sound reached h) puts.1;
}

pub returns-clause-put : goal.returns-clause-put
returns-clause-put g c = λ s x sound reached h. (omega arith, c.loop.invariant.written s x sound reached h)
