-- How the table of producers changes.
use Rattle.std.specs.Prelude.{ℕ, ◌==◌, if◌then◌else◌, Option, Some, None, List, slice_set, get_or}
use Rattle.reservation_stations.specs.Numbers.{number_of}

-- the index, where it isn't this one
abbrev pub without : ℕ → Option ℕ → Option ℕ
without index None = None
without index (Some other) = if other == index then None else Some other

-- the producers with another one of a register; where none is given, in the place that no source reads
abbrev pub with_producer : Option ℕ → Option ℕ → List (Option ℕ) → List (Option ℕ)
with_producer destination index producers = slice_set producers (number_of 257 destination) index

-- the producer of a register; where none is given, what that place holds
abbrev pub producer_at : List (Option ℕ) → Option ℕ → Option ℕ
producer_at producers destination = get_or producers (number_of 257 destination) None
