-- What files hold, and what one read of them gives.
use Rattle.std.specs.Prelude.{◌≡◌, ℕ, ◌+◌, ◌≤◌, List, length, take, drop, Option, Some, None, find}
use Rattle.std.specs.Prelude.{option_map, bytes_eq}
use Rattle.fsim_ports.specs.Count.{HasRisen}
use Rattle.fsim_ports.specs.declared.outside.Part.{Part}
use Rattle.fsim_ports.specs.declared.outside.Part.TheVariants.{Bytes, End, Missing, Failed}

-- names and the bytes under them; the first entry of a name counts
abbrev pub Names : Type 0
Names = List (List ℕ × List ℕ)

-- the bytes under a name
abbrev pub lookup : Names → List ℕ → Option (List ℕ)
lookup names name = option_map (λ file. file.1) (find (λ file. bytes_eq file.0 name) names)

-- what a name holds: nothing is told of it, it isn't there, or it holds these bytes
pub data Holding : Type 0 where
  Untold : Holding
  Absent : Holding
  Holds : List ℕ → Holding

-- what a name holds among told names
abbrev pub holding_among : Option (List ℕ) → Holding
holding_among None = Absent
holding_among (Some bytes) = Holds bytes

-- what a name holds, by the names that are told, if any
abbrev pub holding_of : Option Names → List ℕ → Holding
holding_of None name = Untold
holding_of (Some names) name = holding_among (lookup names name)

-- the name isn't told to be absent, and the bytes that it is told to hold, if any, are such
abbrev pub MayHold : Holding → (List ℕ → Type 0) → Type 0
MayHold Untold P = Unit {0}
MayHold Absent P = ⊥
MayHold (Holds bytes) P = P bytes

-- the name is told to be absent, or nothing is told of it and the count of faults rose
abbrev pub IsGone : Holding → ℕ → ℕ → Type 0
IsGone Untold before after = HasRisen before after
IsGone Absent before after = Unit {0}
IsGone (Holds bytes) before after = ⊥

-- the count of faults rose, and the name isn't told to be absent
pub record IsFault (holding : Holding) (before after : ℕ) : Type 0 where
  pub rose : HasRisen before after
  pub there : MayHold holding (λ bytes. Unit {0})

-- the first `count` bytes of a buffer are those of a file from `at` on
pub record IsPiece (file : List ℕ) (at count : ℕ) (buffer : List ℕ) : Type 0 where
  pub inside : at + count ≤ length file
  pub bytes : take count buffer ≡ take count (drop at file)

-- at least one byte was read, and they are those of the file
pub record ReadsSome (holding : Holding) (at : ℕ) (buffer : List ℕ) (count : ℕ) : Type 0 where
  pub some : 1 ≤ count
  pub room : count ≤ length buffer
  pub content : MayHold holding (λ file. IsPiece file at count buffer)

-- what a read at `at` may answer
abbrev pub IsPart : Holding → ℕ → ℕ → ℕ → List ℕ → Part → Type 0
IsPart holding at before after buffer (Bytes count) = ReadsSome holding at buffer count
IsPart holding at before after buffer End = MayHold holding (λ file. length file ≤ at)
IsPart holding at before after buffer Missing = IsGone holding before after
IsPart holding at before after buffer Failed = IsFault holding before after
