-- What was read of a source, and what has to be written before more is read.
use Rattle.std.specs.Prelude.{◌≡◌, ℕ, ◌≤◌, List, length, take, Option, Some, None}
use Rattle.fsim_ports.specs.Count.{HasRisen}
use Rattle.fsim_ports.specs.Sink.{grown}
use Rattle.fsim_ports.specs.declared.source.Heard.{Heard}
use Rattle.fsim_ports.specs.declared.source.Heard.TheVariants.{Bytes, End, Failed}

-- all that is due of what was read is written, where both are told
abbrev pub IsPrompt : (List ℕ → List ℕ) → Option (List ℕ) → Option (List ℕ) → Type 0
IsPrompt due None written = Unit {0}
IsPrompt due (Some heard) None = Unit {0}
IsPrompt due (Some heard) (Some written) = written ≡ due heard

-- at least one byte was read, and they are behind those that were read before
pub record HearsSome (old new : Option (List ℕ)) (buffer : List ℕ) (count : ℕ) : Type 0 where
  pub some : 1 ≤ count
  pub room : count ≤ length buffer
  pub heard : new ≡ grown old (take count buffer)

-- nothing was read, and the count of faults rose
pub record HearsNothing (before after : ℕ) (old new : Option (List ℕ)) : Type 0 where
  pub rose : HasRisen before after
  pub same : new ≡ old

-- what one read may give
abbrev pub IsHeard : ℕ → ℕ → Option (List ℕ) → Option (List ℕ) → List ℕ → Heard → Type 0
IsHeard before after old new buffer (Bytes count) = HearsSome old new buffer count
IsHeard before after old new buffer End = new ≡ old
IsHeard before after old new buffer Failed = HearsNothing before after old new
