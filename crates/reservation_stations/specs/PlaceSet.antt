-- What places a set of places has.
use Rattle.std.specs.Prelude.{ℕ, ◌-◌, ◌==◌, ◌&&◌, nat_le, Bool}
use Rattle.std.specs.Int.{bit_at}
use Rattle.reservation_stations.specs.declared.place_set.PlaceSet.{PlaceSet}

-- whether a place is in a set
abbrev pub has : PlaceSet → ℕ → Bool
has set place = nat_le set.from place && (bit_at set.word (place - set.from) == 1)
