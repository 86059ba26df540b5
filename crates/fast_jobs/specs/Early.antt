-- Output that is put as it comes, and what is written of a job then.
use Rattle.std.specs.Prelude.{◌≡◌, ℕ, ◌≤◌, List, take, drop, Option, Result, Ok, Err}
use Rattle.fsim_ports.specs.Sink.{grown, Breaks}
use Rattle.fast_jobs.specs.Call.{Writing}

-- So many bytes of an output were put before, and now more, up to the number that is answered; or the text from there on
-- broke off.
abbrev pub PutsOn : {E : Type 0} → List ℕ → ℕ → ℕ → ℕ → Option (List ℕ) → Option (List ℕ) → Result ℕ E → Type 0
PutsOn output put before after old new (Ok count) = (put ≤ count) × (new ≡ grown old (drop put (take count output)))
PutsOn output put before after old new (Err fault) = Breaks (drop put output) before after old new

-- none were put before
abbrev pub PutsFirst : {E : Type 0} → List ℕ → ℕ → ℕ → Option (List ℕ) → Option (List ℕ) → Result ℕ E → Type 0
PutsFirst output before after old new result = PutsOn output 0 before after old new result

-- since a job began, the first bytes of its output were put and nothing else
pub record HasPut (output : List ℕ) (put : ℕ) (begun : Option (List ℕ)) (faults : ℕ) (new : Option (List ℕ)) (count : ℕ) : Type 0 where
  pub written : new ≡ grown begun (take put output)
  pub kept : faults ≤ count

-- a job that began so, and was left so
abbrev pub writing_since : {K : Type 0} → (K → Option (List ℕ)) → (K → ℕ) → Option (List ℕ) → ℕ → K → Writing
writing_since written faults begun count after = record {
  before = begun;
  after = written after;
  faults = record { before = count; after = faults after };
}
