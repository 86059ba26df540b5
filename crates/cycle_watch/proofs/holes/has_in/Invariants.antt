use Rattle.std.proofs.Common.{◌≡◌, drop}
use Rattle.insight_model.specs.Hole.{has_in}
use Rattle.cycle_watch.specs.Stages.{is_in}
use Rattle.cycle_watch.proofs.holes.has_in.Given as goal

-- the stage has one if one of the others is in it
abbrev pub invariant-loop-place : goal.invariant-loop-place
invariant-loop-place g l =
    has_in (is_in l.stage) (g.S.Watched.sight l.side).window ≡ has_in (is_in l.stage) (drop l.place (g.S.Watched.sight l.side).window)
