use Rattle.std.proofs.Common.{◌≡◌, drop}
use Rattle.insight_model.specs.Hole.{stays_in}
use Rattle.cycle_watch.specs.Stages.{is_in, kept_in}
use Rattle.cycle_watch.proofs.holes.stays_in.Given as goal

-- the one that stays is among the others
abbrev pub invariant-loop-place : goal.invariant-loop-place
invariant-loop-place g l =
    stays_in (is_in l.stage) (kept_in l.last l.facts (g.S.Watched.sight l.side).window)
    ≡ stays_in (is_in l.stage) (drop l.place (kept_in l.last l.facts (g.S.Watched.sight l.side).window))
