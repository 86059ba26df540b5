-- Steps in places that go round: behind the last place comes the first one.
use Rattle.std.specs.Prelude.{◌≡◌, ℕ, ◌+◌, ◌^◌, ◌%◌, ◌<◌, ◌≤◌, List, ◌++◌, length, take, drop, bit_and}
use Rattle.undo_journal.specs.declared.past.Past.{Past}
use Rattle.undo_journal.specs.Journal.{IsRising}

-- so many steps, from the place of the oldest on
abbrev pub held : List Past → ℕ → ℕ → List Past
held places first count = take count (drop first (places ++ places))

-- of a number, a mask leaves the rest by the number above it
abbrev pub IsMask : ℕ → Type 0
IsMask mask = (n : ℕ) → bit_and n mask ≡ n % (mask + 1)

-- the places hold so many steps with rising numbers, of as many as have room
pub record IsRing (places : List Past) (mask room first count : ℕ) : Type 0 where
  pub size : length places ≡ mask + 1
  pub masks : IsMask mask
  pub bound : mask < 2 ^ 31
  pub within : room ≤ mask + 1
  pub oldest : first ≤ mask
  pub newest : count ≤ room
  pub rising : IsRising (held places first count)
