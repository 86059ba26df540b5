use Rattle.std.proofs.Common.{◌+◌, drop, take}
use Rattle.insight_model.specs.Trace.{left_lines}
use Rattle.cycle_watch.specs.Facts.{window_in}
use Rattle.cycle_watch.specs.Traced.{marks_in}
use Rattle.cycle_watch.specs.Writing.{IsReady, stand}
use Rattle.cycle_watch.proofs.Writing.{SoFar}
use Rattle.cycle_watch.proofs.trace.tell_left.Given as goal

-- those so far were told
abbrev pub invariant-loop-place : goal.invariant-loop-place
invariant-loop-place g l =
    let w = take l.facts.left (window_in l.last.marks.items) in
    let ms = marks_in l.told.marks.items in
    record {
      ready : IsReady l.facts.cycle l.text;
      far : SoFar l.facts.cycle (left_lines l.facts.trapped l.facts.number w ms)
          (left_lines l.facts.trapped (l.facts.number + l.place) (drop l.place w) (drop l.place ms))
          (stand l.initial.text (g.K.Sink.faults l.initial.sink) (g.K.Sink.written l.initial.sink))
          (stand l.text (g.K.Sink.faults l.sink) (g.K.Sink.written l.sink));
    }
