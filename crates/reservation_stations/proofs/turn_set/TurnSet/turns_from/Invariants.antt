use Rattle.std.proofs.Common.{◌≡◌, ℕ, ◌<◌}
use Rattle.std.specs.Prelude.{nat_lt}
use Rattle.reservation_stations.specs.TurnSet.{holds}
use Rattle.reservation_stations.specs.Places.{place_of}
use Rattle.reservation_stations.proofs.turn_set.TurnSet.turns_from.Given as goal

abbrev pub invariant-loop-place : goal.invariant-loop-place
invariant-loop-place l = (turn : ℕ) → turn < 256 → holds l.set turn ≡ nat_lt (place_of l.from turn) l.place
