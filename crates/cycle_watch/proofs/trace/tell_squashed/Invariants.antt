use Rattle.std.proofs.Common.{◌-◌, drop}
use Rattle.insight_model.specs.Trace.{squashed_lines}
use Rattle.cycle_watch.specs.Facts.{facts_in, window_in}
use Rattle.cycle_watch.specs.Traced.{marks_in}
use Rattle.cycle_watch.specs.Writing.{IsReady, stand}
use Rattle.cycle_watch.proofs.Writing.{SoFar}
use Rattle.cycle_watch.proofs.trace.tell_squashed.Given as goal

-- those so far were told
abbrev pub invariant-loop-place : goal.invariant-loop-place
invariant-loop-place g l =
    let w = window_in l.last.marks.items in
    let ms = marks_in l.told.marks.items in
    let f = facts_in w (g.S.Watched.sight l.side).window l.facts in
    record {
      ready : IsReady l.facts.cycle l.text;
      far : SoFar l.facts.cycle (squashed_lines f l.facts.kept (drop l.facts.kept (drop l.facts.left w)) (drop l.facts.kept (drop l.facts.left ms)))
          (squashed_lines f (l.place - l.facts.left) (drop l.place w) (drop l.place ms))
          (stand l.initial.text (g.K.Sink.faults l.initial.sink) (g.K.Sink.written l.initial.sink))
          (stand l.text (g.K.Sink.faults l.sink) (g.K.Sink.written l.sink));
    }
