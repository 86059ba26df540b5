use Rattle.std.proofs.Common.{◌≡◌, ◌-◌, drop, length, take}
use Rattle.insight_model.specs.Facts.{Facts}
use Rattle.cycle_watch.specs.Known.{HasAppended, TellsOrigin}
use Rattle.cycle_watch.proofs.heads.Heads.append.Given as goal

-- those so far were appended
abbrev pub invariant-loop-place : goal.invariant-loop-place
invariant-loop-place g l = record {
  count : length l.self.last.marks.items ≡ l.place;
  room : l.self.last.marks.capacity ≡ l.initial.self.last.marks.capacity;
  appended : (f : Facts) → TellsOrigin l.facts f
      → HasAppended l.initial.self f (take (l.place - l.facts.kept) (drop l.facts.kept (g.S.Watched.sight l.side).window)) l.self;
}
