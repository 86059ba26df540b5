use Rattle.std.proofs.Common.{◌≡◌, ℕ, ◌<◌, ◌≤◌, ◌&&◌, length}
use Rattle.reservation_stations.specs.TurnSet.{holds}
use Rattle.reservation_stations.specs.Noting.{dependents_of}
use Rattle.reservation_stations.proofs.sets.keep_each.Given as goal

abbrev pub invariant-loop-turns : goal.invariant-loop-turns
invariant-loop-turns l = record {
  every_index : length l.turns-items ≡ length l.fn.dependents.items;
  kept : (index other : ℕ) → index < l.turns-index →
      holds (dependents_of l.turns-items index) other ≡ (holds (dependents_of l.fn.dependents.items index) other && holds l.live other);
  rest : (index : ℕ) → l.turns-index ≤ index → dependents_of l.turns-items index ≡ dependents_of l.fn.dependents.items index;
}
