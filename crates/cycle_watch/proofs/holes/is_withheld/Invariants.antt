use Rattle.std.proofs.Common.{◌≡◌, take}
use Rattle.insight_model.specs.Hole.{is_withheld, past_decode}
use Rattle.cycle_watch.proofs.holes.is_withheld.Given as goal

-- the register is withheld if it is by those before these
abbrev pub invariant-loop-place : goal.invariant-loop-place
invariant-loop-place g l =
    is_withheld (past_decode (g.S.Watched.sight l.side).window) l.register
    ≡ is_withheld (past_decode (take l.place (g.S.Watched.sight l.side).window)) l.register
