use Rattle.std.proofs.Common.{◌≢◌, ℕ, ◌-◌, ◌<◌}
use Rattle.cache_timing.specs.Ages.{age_of}
use Rattle.cache_timing.proofs.ages.oldest.Given as goal

abbrev pub invariant-loop-way : goal.invariant-loop-way
invariant-loop-way l = (w : ℕ) → w < l.way → age_of l.ages w ≢ l.ways - 1
