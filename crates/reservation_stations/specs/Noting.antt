-- How the turns of those that await the value of an index change.
use Rattle.std.specs.Prelude.{◌≡◌, ℕ, ◌<◌, ◌==◌, ◌&&◌, ◌||◌, List, [], ◌∷◌, length, get_or}
use Rattle.reservation_stations.specs.declared.turn_set.TurnSet.{TurnSet}
use Rattle.reservation_stations.specs.TurnSet.{holds}

abbrev pub no_turns : TurnSet
no_turns = record { words = 0 ∷ 0 ∷ 0 ∷ 0 ∷ [] }

-- the turns of the stations that await the value of an index
abbrev pub dependents_of : List TurnSet → ℕ → TurnSet
dependents_of dependents index = get_or dependents index no_turns

-- a turn is noted among those that await the value of an index
pub record Notes (on turn : ℕ) (old new : List TurnSet) : Type 0 where
  pub every_index : length new ≡ length old
  pub noted : (index other : ℕ) → index < length old →
      holds (dependents_of new index) other ≡ (holds (dependents_of old index) other || ((index == on) && (other == turn)))

-- some turns alone are kept among those of each index
pub record Keeps (live : TurnSet) (old new : List TurnSet) : Type 0 where
  pub every_index : length new ≡ length old
  pub kept : (index other : ℕ) → index < length old →
      holds (dependents_of new index) other ≡ (holds (dependents_of old index) other && holds live other)
