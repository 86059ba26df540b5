use Rattle.std.proofs.Common.{◌-◌}
use Rattle.cycle_watch.proofs.ProfileBetween.{HasProfiledIdle}
use Rattle.cycle_watch.proofs.profile.Profiling.pass_idle.Given as goal

-- those so far were counted
abbrev pub invariant-loop-self : goal.invariant-loop-self
invariant-loop-self g l = HasProfiledIdle (g.S.Watched.sight l.side) l.initial.self l.self

abbrev pub decreases-loop-self : goal.decreases-loop-self
decreases-loop-self g l = (g.S.Watched.sight l.side).cycle - l.self.heads.last.cycle
