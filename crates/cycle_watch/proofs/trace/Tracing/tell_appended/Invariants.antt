use Rattle.std.proofs.Common.{◌+◌, ◌==◌, ◌&&◌, drop}
use Rattle.insight_model.specs.Trace.{appended_lines}
use Rattle.cycle_watch.specs.Facts.{window_in}
use Rattle.cycle_watch.specs.Traced.{marks_in, older_in}
use Rattle.cycle_watch.specs.Writing.{IsReady, stand}
use Rattle.cycle_watch.proofs.TraceMarks.{TakingIn}
use Rattle.cycle_watch.proofs.Writing.{SoFar}
use Rattle.cycle_watch.proofs.trace.Tracing.tell_appended.Given as goal

-- those so far were taken in
abbrev pub invariant-loop-place : goal.invariant-loop-place
invariant-loop-place g l =
    let w = (g.S.Watched.sight l.side).window in
    let was = l.initial.self in
    let first = l.facts.number + l.facts.left in
    record {
      ready : IsReady l.facts.cycle l.self.text;
      taken : TakingIn was l.facts.cycle l.facts.kept w l.place l.self;
      far : SoFar l.facts.cycle
          (appended_lines was.last.pipeline was.last.params l.facts.cycle l.facts.paid was.introduced (first + l.facts.kept)
          (older_in (marks_in was.told.marks.items) (window_in was.last.marks.items)) (drop l.facts.kept w))
          (appended_lines was.last.pipeline was.last.params l.facts.cycle (l.facts.paid && (l.place == l.facts.kept)) l.self.introduced (first + l.place)
          (older_in (marks_in l.self.told.marks.items) (window_in l.self.last.marks.items)) (drop l.place w))
          (stand was.text (g.K.Sink.faults l.initial.sink) (g.K.Sink.written l.initial.sink))
          (stand l.self.text (g.K.Sink.faults l.sink) (g.K.Sink.written l.sink));
    }
