-- What reading a file whole gives.
use Rattle.std.specs.Prelude.{◌≡◌, ℕ, ◌<◌, ◌≤◌, List, length, Result, Ok, Err, Vec}
use Rattle.std.specs.Global.{Global}
use Rattle.fsim_ports.specs.Files.{Holding, MayHold, IsGone, IsFault}
use Rattle.fsim_ports.specs.declared.load.LoadFault.{LoadFault}
use Rattle.fsim_ports.specs.declared.load.LoadFault.TheVariants.{Missing, Failed, TooLong, Memory}

-- these are all bytes of the file, and no more than the limit
pub record IsWhole (holding : Holding) (limit : ℕ) (bytes : List ℕ) : Type 0 where
  pub within : length bytes ≤ limit
  pub content : MayHold holding (λ file. bytes ≡ file)

-- the file has more bytes than the limit
pub record IsLonger (holding : Holding) (limit : ℕ) : Type 0 where
  pub content : MayHold holding (λ file. limit < length file)

-- what reading a file of at most `limit` bytes whole may answer; want of memory is free, but never
-- at a name that is told to be absent
abbrev pub IsLoad : Holding → ℕ → ℕ → ℕ → Result (Vec ℕ Global) LoadFault → Type 0
IsLoad holding limit before after (Ok bytes) = IsWhole holding limit bytes.items
IsLoad holding limit before after (Err Missing) = IsGone holding before after
IsLoad holding limit before after (Err Failed) = IsFault holding before after
IsLoad holding limit before after (Err TooLong) = IsLonger holding limit
IsLoad holding limit before after (Err Memory) = MayHold holding (λ file. Unit {0})
