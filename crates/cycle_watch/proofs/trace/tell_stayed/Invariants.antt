use Rattle.std.proofs.Common.{◌≡◌, drop, take}
use Rattle.insight_model.specs.Facts.{pairs}
use Rattle.insight_model.specs.Trace.{kept_lines}
use Rattle.cycle_watch.specs.Facts.{facts_in, window_in}
use Rattle.cycle_watch.specs.Traced.{marks_in}
use Rattle.cycle_watch.specs.Writing.{IsReady, stand}
use Rattle.cycle_watch.proofs.TraceMarks.{StayedTo}
use Rattle.cycle_watch.proofs.Writing.{SoFar}
use Rattle.cycle_watch.proofs.trace.tell_stayed.Given as goal

-- those so far were told, and have their marks
abbrev pub invariant-loop-place : goal.invariant-loop-place
invariant-loop-place g l =
    let w = window_in l.last.marks.items in
    let after = (g.S.Watched.sight l.side).window in
    let f = facts_in w after l.facts in
    let ks = pairs (drop l.facts.left w) (take l.facts.kept after) in
    let ms = marks_in l.initial.told.marks.items in
    record {
      ready : IsReady l.facts.cycle l.text;
      room : l.told.marks.capacity ≡ l.initial.told.marks.capacity;
      stayed : StayedTo l.last.pipeline l.last.params f ks l.place l.initial.told.marks.items l.told.marks.items;
      far : SoFar l.facts.cycle (kept_lines l.last.pipeline l.last.params f 0 ks ms)
          (kept_lines l.last.pipeline l.last.params f l.place (drop l.place ks) (drop l.place ms))
          (stand l.initial.text (g.K.Sink.faults l.initial.sink) (g.K.Sink.written l.initial.sink))
          (stand l.text (g.K.Sink.faults l.sink) (g.K.Sink.written l.sink));
    }
