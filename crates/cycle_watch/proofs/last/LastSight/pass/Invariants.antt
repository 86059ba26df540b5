use Rattle.cycle_watch.proofs.Passed.{PassedSoFar}
use Rattle.cycle_watch.proofs.last.LastSight.pass.Given as goal

-- those so far have advanced
abbrev pub invariant-loop-place : goal.invariant-loop-place
invariant-loop-place g l = PassedSoFar (g.S.Watched.sight l.side).window l.facts.cycle l.place l.initial.self l.self
