-- What a sink was given.
use Rattle.std.specs.Prelude.{◌≡◌, ℕ, ◌<◌, ◌≤◌, List, ◌++◌, length, take, Option, Some, None}
use Rattle.std.specs.Prelude.{Result, Ok, Err, ◌⊎◌}
use Rattle.fsim_ports.specs.Count.{HasRisen}
use Rattle.fsim_ports.specs.declared.outside.Failed.{Failed}

-- what was written, where that is told, with a text behind it
abbrev pub grown : Option (List ℕ) → List ℕ → Option (List ℕ)
grown None text = None
grown (Some written) text = Some (written ++ text)

-- the first `count` bytes of a piece were written; none of a piece that has some only where the
-- count of faults rose
pub record Takes (piece : List ℕ) (before after : ℕ) (old new : Option (List ℕ))
    (count : ℕ) : Type 0 where
  pub bound : count ≤ length piece
  pub written : new ≡ grown old (take count piece)
  pub stalled : count ≡ 0 → 0 < length piece → HasRisen before after

-- nothing was written, and the count of faults rose
pub record Refuses (before after : ℕ) (old new : Option (List ℕ)) : Type 0 where
  pub rose : HasRisen before after
  pub same : new ≡ old

-- what one put of a piece may answer
abbrev pub IsPut : List ℕ → ℕ → ℕ → Option (List ℕ) → Option (List ℕ) → Result ℕ Failed → Type 0
IsPut piece before after old new (Ok count) = Takes piece before after old new count
IsPut piece before after old new (Err failed) = Refuses before after old new

-- only the first `count` bytes of a text were written, and the count of faults rose
pub record Breaks (text : List ℕ) (before after : ℕ) (old new : Option (List ℕ)) : Type 0 where
  pub count : ℕ
  pub short : count < length text
  pub written : new ≡ grown old (take count text)
  pub rose : HasRisen before after

-- what writing a whole text may answer, whatever the error is
abbrev pub Puts : {E : Type 0} → List ℕ → ℕ → ℕ → Option (List ℕ) → Option (List ℕ)
    → Result (Unit {0}) E → Type 0
Puts text before after old new (Ok done) = new ≡ grown old text
Puts text before after old new (Err fault) = Breaks text before after old new

-- the text was written whole, or broke off
abbrev pub Wrote : List ℕ → ℕ → ℕ → Option (List ℕ) → Option (List ℕ) → Type 0
Wrote text before after old new = (new ≡ grown old text) ⊎ Breaks text before after old new
