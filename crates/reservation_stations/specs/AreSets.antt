-- What the sets of turns tell of the stations: which wait, which execute, and what each misses.
use Rattle.std.specs.Prelude.{◌≡◌, ℕ, ◌<◌, ◌==◌, ◌||◌, not, Bool, false, if◌then◌else◌, is_some, Option, Some, None, List, length, slice_get}
use Rattle.reservation_stations.specs.declared.sets.Sets.{Sets}
use Rattle.reservation_stations.specs.declared.station.Station.{Station}
use Rattle.reservation_stations.specs.TurnSet.{holds}
use Rattle.reservation_stations.specs.Readiness.{is_waiting, executes_at, older_than}
use Rattle.reservation_stations.specs.AreTables.{awaited}
use Rattle.reservation_stations.specs.Changes.{without}
use Rattle.reservation_stations.specs.Places.{is_index, place_of}
use Rattle.reservation_stations.specs.Noting.{dependents_of}

-- the indices that a station's operands are awaited from, where they are
pub record Missing : Type 0 where
  pub first : Option ℕ
  pub second : Option ℕ

abbrev pub nothing : Missing
nothing = record { first = None; second = None }

-- what the station at a place misses, if there is one
abbrev pub missing : List Station → Option Station → Missing
missing older None = nothing
missing older (Some station) = record { first = awaited older station.first; second = awaited older station.second }

abbrev pub missing_at : List Station → ℕ → Missing
missing_at stations place = missing (older_than place stations) (slice_get stations place)

-- whether the station at a place waits
abbrev pub waits : Option Station → Bool
waits None = false
waits (Some station) = is_waiting station.mark

abbrev pub waits_at : List Station → ℕ → Bool
waits_at stations place = waits (slice_get stations place)

-- whether an operand is missing, and whether both are, of two stations
abbrev pub misses_one : Missing → Bool
misses_one missed = is_some missed.first || is_some missed.second

abbrev pub are_two : Option ℕ → Option ℕ → Bool
are_two None second = false
are_two (Some first) None = false
are_two (Some first) (Some second) = not (first == second)

abbrev pub misses_both : Missing → Bool
misses_both missed = are_two missed.first missed.second

-- whether an index's value is awaited
abbrev pub awaits : ℕ → Missing → Bool
awaits index missed = is_index index missed.first || is_index index missed.second

-- what is missing once that value is there
abbrev pub fed : ℕ → Missing → Missing
fed index missed = record { first = without index missed.first; second = without index missed.second }

-- something else of one turn
abbrev pub put : {X : Type 0} → ℕ → X → (ℕ → X) → ℕ → X
put turn value of other = if other == turn then value else of other

-- the sets of turns, by what is true of each turn's station
pub record AreSets (capacity : ℕ) (waits executes : ℕ → Bool) (missed : ℕ → Missing) (sets : Sets) : Type 0 where
  pub every_index : length sets.dependents.items ≡ capacity
  pub waiting : (turn : ℕ) → turn < 256 → holds sets.waiting turn ≡ waits turn
  pub executing : (turn : ℕ) → turn < 256 → holds sets.executing turn ≡ executes turn
  pub short : (turn : ℕ) → turn < 256 → holds sets.short turn ≡ misses_one (missed turn)
  pub both : (turn : ℕ) → turn < 256 → holds sets.both turn ≡ misses_both (missed turn)
  pub dependents : (turn index : ℕ) → turn < 256 → index < capacity → holds (dependents_of sets.dependents.items index) turn ≡ awaits index (missed turn)

-- the sets of some stations, where so many retired before
abbrev pub AreSetsOf : ℕ → ℕ → List Station → Sets → Type 0
AreSetsOf capacity retired stations sets =
    AreSets capacity (λ turn. waits_at stations (place_of retired turn)) (λ turn. executes_at stations (place_of retired turn))
    (λ turn. missing_at stations (place_of retired turn)) sets
