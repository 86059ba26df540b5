-- The ring rule. Each entry is the one that its epoch and number name, and the entries in the order
-- in which they were pushed are a chain: along an epoch the numbers go up one by one, and a later
-- epoch begins with the number in the order that opens it.
use Rattle.std.specs.Prelude.{◌≡◌, ◌⊎◌, ℕ, ◌+◌, ◌<◌, Option, None, Some, List, [], ◌∷◌}
use Rattle.trace_entry.specs.declared.Entry.{Entry}
use Rattle.mono_model.specs.declared.setup.Setup.{Setup}
use Rattle.mono_model.specs.Demand.{first, entry_in}

-- the entry is the one that the machine has for its epoch and number
abbrev pub IsNamed : Setup → Entry → Type 0
IsNamed setup x = x ≡ entry_in setup x.epoch x.number

-- In a chain (e, n) is followed by (e, n + 1), or by (f, the number that opens f) with f above e.
-- It begins with some (f, the number that opens f).
abbrev pub Follows : Setup → Option (ℕ × ℕ) → ℕ → ℕ → Type 0
Follows setup None epoch number = number ≡ first setup epoch
Follows setup (Some last) epoch number =
    ((epoch ≡ last.0) × (number ≡ last.1 + 1)) ⊎ ((last.0 < epoch) × (number ≡ first setup epoch))

-- epoch and number of the last entry, if there is one
abbrev pub last_of : List Entry → Option (ℕ × ℕ)
last_of [] = None
last_of (x ∷ []) = Some (x.epoch, x.number)
last_of (x ∷ y ∷ ys) = last_of (y ∷ ys)

-- the rule: behind the entries `before`, x may be pushed
abbrev pub MayFollow : Setup → List Entry → Entry → Type 0
MayFollow setup before x = IsNamed setup x × Follows setup (last_of before) x.epoch x.number
