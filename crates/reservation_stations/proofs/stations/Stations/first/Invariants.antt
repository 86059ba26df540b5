use Rattle.std.proofs.Common.{◌≡◌, ℕ, ◌-◌, ◌%◌, ◌≤◌, ◌<◌, false}
use Rattle.reservation_stations.specs.Readiness.{is_sought_at}
use Rattle.reservation_stations.proofs.stations.Stations.first.Given as goal

-- there is none in front of the 64 places
abbrev pub invariant-loop-block : goal.invariant-loop-block
invariant-loop-block l = record {
  whole : l.block % 64 ≡ 0;
  none : (k : ℕ) → l.from ≤ k → k < l.block → is_sought_at l.sought l.self.stations k ≡ false;
}

abbrev pub decreases-loop-block : goal.decreases-loop-block
decreases-loop-block l = 256 - l.block
