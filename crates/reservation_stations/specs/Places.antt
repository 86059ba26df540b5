-- Where the stations stand in the list: the place of each by its turn.
use Rattle.std.specs.Prelude.{◌≡◌, ℕ, ◌+◌, ◌-◌, ◌%◌, ◌==◌, Bool, false, Option, Some, None, List, slice_get}
use Rattle.reservation_stations.specs.declared.row.Row.{Row}
use Rattle.reservation_stations.specs.AreTables.{row_at}

-- whether it is this index
abbrev pub is_index : ℕ → Option ℕ → Bool
is_index index None = false
is_index index (Some other) = index == other

-- the place of a turn, where so many retired
abbrev pub place_of : ℕ → ℕ → ℕ
place_of retired turn = (turn + (256 - retired)) % 256

-- the place of a row's station
abbrev pub place_in : ℕ → Row → ℕ
place_in retired row = place_of retired row.turn

-- each station stands at the place of its turn
abbrev pub AreTurned : ℕ → List ℕ → List Row → Type 0
AreTurned retired indices rows =
    (place index : ℕ) → slice_get indices place ≡ Some index → place_in retired (row_at rows index) ≡ place
