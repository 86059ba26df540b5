-- The ages of a set's ways, four bits each in one word: 0 is the way used last.
use Rattle.std.specs.Prelude.{◌≡◌, ℕ, ◌<◌, ◌*◌, ◌/◌, ◌%◌, ◌^◌, ◌+◌, ◌==◌, nat_lt, if◌then◌else◌}

-- the age of a way
abbrev pub age_of : ℕ → ℕ → ℕ
age_of word way = word / 2 ^ (4 * way) % 16

-- the ages are the places of the ways in one order, from 0 on
pub record IsOrder (ways : ℕ) (age : ℕ → ℕ) : Type 0 where
  pub way : ℕ → ℕ
  pub age_within : (w : ℕ) → w < ways → age w < ways
  pub way_within : (a : ℕ) → a < ways → way a < ways
  pub age_of_way : (a : ℕ) → a < ways → age (way a) ≡ a
  pub way_of_age : (w : ℕ) → w < ways → way (age w) ≡ w

-- the age of a way after the way `used` was used: its own becomes 0, and those below it rise
abbrev pub age_after : (ℕ → ℕ) → ℕ → ℕ → ℕ
age_after age used way = if way == used then 0 else if nat_lt (age way) (age used) then age way + 1 else age way
