-- What a call found outside, and how it left it.
use Rattle.std.specs.Prelude.{◌≡◌, ℕ, ◌-◌, ◌^◌, ◌<◌, List, Option}
use Rattle.fsim_ports.specs.Files.{Names}
use Rattle.fsim_ports.specs.Sink.{Wrote}

-- a count of faults, before the call and after it
pub record Faults : Type 0 where
  pub before : ℕ
  pub after : ℕ

-- no fault was counted, and one could have been
pub record IsQuiet (faults : Faults) : Type 0 where
  pub same : faults.after ≡ faults.before
  pub room : faults.before < 2 ^ 64 - 1

-- what is told of the files, and their count of faults
pub record Reading : Type 0 where
  pub told : Option Names
  pub faults : Faults

-- what the sink was given, where that is told, before the call and after it, and its count of
-- faults
pub record Writing : Type 0 where
  pub before : Option (List ℕ)
  pub after : Option (List ℕ)
  pub faults : Faults

-- what was read of standard input, where that is told, before the call and after it, and its count of
-- faults
pub record Hearing : Type 0 where
  pub before : Option (List ℕ)
  pub after : Option (List ℕ)
  pub faults : Faults

-- nothing was read of standard input
pub record IsUnheard (hearing : Hearing) : Type 0 where
  pub same : hearing.after ≡ hearing.before
  pub quiet : hearing.faults.after ≡ hearing.faults.before

-- a call that was handed the files as they were before, and left them as they were after
abbrev pub reading_of : {F : Type 0} → (F → Option Names) → (F → ℕ) → F → F → Reading
reading_of told faults before after = record {
  told = told before;
  faults = record { before = faults before; after = faults after };
}

-- the same of the sink
abbrev pub writing_of : {K : Type 0} → (K → Option (List ℕ)) → (K → ℕ) → K → K → Writing
writing_of written faults before after = record {
  before = written before;
  after = written after;
  faults = record { before = faults before; after = faults after };
}

-- the same of standard input
abbrev pub hearing_of : {S : Type 0} → (S → Option (List ℕ)) → (S → ℕ) → S → S → Hearing
hearing_of heard faults before after = record {
  before = heard before;
  after = heard after;
  faults = record { before = faults before; after = faults after };
}

-- the text was written whole, or broke off where the count of faults rose
abbrev pub WroteTo : Writing → List ℕ → Type 0
WroteTo sink text = Wrote text sink.faults.before sink.faults.after sink.before sink.after
