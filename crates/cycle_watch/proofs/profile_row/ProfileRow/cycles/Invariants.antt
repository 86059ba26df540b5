use Rattle.std.proofs.Common.{◌≡◌, sum, take}
use Rattle.cycle_watch.specs.Profiled.{capped}
use Rattle.cycle_watch.proofs.profile_row.ProfileRow.cycles.Given as goal

-- the sum so far
abbrev pub invariant-loop-spent : goal.invariant-loop-spent
invariant-loop-spent l = l.sum ≡ capped 0 (sum (take l.spent-index l.self.spent))
