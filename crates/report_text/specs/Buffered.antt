-- A text that is written in large pieces.
use Rattle.std.specs.Prelude.{◌≡◌, ℕ, List, ◌++◌, Option, Result, Ok, Err}
use Rattle.fsim_ports.specs.Sink.{Breaks, grown}

-- some of a text was written, and the rest is held
pub record IsGathered (text held : List ℕ) (old new : Option (List ℕ)) : Type 0 where
  pub part : List ℕ
  pub written : new ≡ grown old part
  pub whole : part ++ held ≡ text

-- a piece was added to what was held, or the text broke off
abbrev pub PutsLater : {E : Type 0} → List ℕ → List ℕ → List ℕ → ℕ → ℕ → Option (List ℕ) → Option (List ℕ) → Result (Unit {0}) E → Type 0
PutsLater piece before held was is old new (Ok done) = IsGathered (before ++ piece) held old new
PutsLater piece before held was is old new (Err fault) = Breaks (before ++ piece) was is old new
