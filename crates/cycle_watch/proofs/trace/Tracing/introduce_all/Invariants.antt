use Rattle.std.proofs.Common.{◌≡◌, ◌+◌, drop}
use Rattle.insight_model.specs.Trace.{opening_lines}
use Rattle.cycle_watch.specs.Facts.{window_in}
use Rattle.cycle_watch.specs.Writing.{IsReady, stand}
use Rattle.cycle_watch.proofs.TraceMarks.{Introducing}
use Rattle.cycle_watch.proofs.Writing.{SoFar}
use Rattle.cycle_watch.proofs.trace.Tracing.introduce_all.Given as goal

-- those so far were introduced
abbrev pub invariant-loop-place : goal.invariant-loop-place
invariant-loop-place g l =
    let w = window_in l.initial.self.last.marks.items in
    let old = l.initial.self.last in
    record {
      ready : IsReady l.cycle l.self.text;
      last : l.self.last ≡ old;
      count : l.self.introduced ≡ l.place;
      introduced : Introducing l.initial.self l.cycle w (drop l.place w) l.self;
      far : SoFar l.cycle (opening_lines old.pipeline old.params l.cycle 0 l.number w)
          (opening_lines old.pipeline old.params l.cycle l.place (l.number + l.place) (drop l.place w))
          (stand l.initial.self.text (g.K.Sink.faults l.initial.sink) (g.K.Sink.written l.initial.sink))
          (stand l.self.text (g.K.Sink.faults l.sink) (g.K.Sink.written l.sink));
    }
