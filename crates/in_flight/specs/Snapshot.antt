-- What a set of places keeps of a phase's start, while the phase goes from place to place.
use Rattle.std.specs.Prelude.{◌≡◌, ℕ, ◌≤◌, ◌<◌, Bool, false}
use Rattle.reservation_stations.specs.declared.place_set.PlaceSet.{PlaceSet}
use Rattle.reservation_stations.specs.PlaceSet.{has}

-- a set has those of the first 64 places, from one on, of which something is true
pub record IsSnapshot (test : ℕ → Bool) (from : ℕ) (set : PlaceSet) : Type 0 where
  pub each : (place : ℕ) → from ≤ place → place < 64 → has set place ≡ test place
  pub passed : (place : ℕ) → place < from → has set place ≡ false
  pub first : (place : ℕ) → 64 ≤ place → has set place ≡ false
