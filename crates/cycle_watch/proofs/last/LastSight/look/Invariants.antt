use Rattle.cycle_watch.proofs.Looked.{Looked}
use Rattle.cycle_watch.proofs.last.LastSight.look.Given as goal

-- those so far are remembered
abbrev pub invariant-loop-place : goal.invariant-loop-place
invariant-loop-place g l = Looked (g.S.Watched.sight l.side).window l.place l.initial.self l.self
