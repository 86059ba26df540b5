-- What comes of reading files, one after the other.
use Rattle.std.specs.Prelude.{◌≡◌, ℕ, ◌≤◌, nat_lt, if◌then◌else◌, List, [], ◌∷◌, ◌++◌, length}
use Rattle.std.specs.Prelude.{Option, Some, None, Result, Ok, Err}
use Rattle.fsim_ports.specs.Files.{Names, holding_of, lookup}
use Rattle.fsim_ports.specs.Loading.{IsWhole, IsLoad}
use Rattle.fsim_ports.specs.declared.load.LoadFault.{LoadFault}
use Rattle.fsim_ports.specs.declared.load.LoadFault.TheVariants as load
use Rattle.report_text.specs.declared.status.Role.{Role}
use Rattle.report_text.specs.declared.status.Status.{Status}
use Rattle.report_text.specs.declared.status.Status.TheVariants.{Missing, ReadFault, Memory}
use Rattle.report_text.specs.declared.status.Status.TheVariants.{TooLong}
use Rattle.fast_jobs.specs.declared.files.NamedFile.{NamedFile}
use Rattle.fast_jobs.specs.Files.{limit_of}
use Rattle.fast_jobs.specs.Gives.{◌>>=◌}
use Rattle.fast_jobs.specs.Call.{Reading}

-- the bytes of a file are read whole: where what it holds is told, they are that
abbrev pub IsRead : Option Names → NamedFile → List ℕ → Type 0
IsRead told file bytes = IsWhole (holding_of told file.name) (limit_of file.role) bytes

-- these are the bytes of each file
abbrev pub AreRead : Option Names → List NamedFile → List (List ℕ) → Type 0
AreRead told [] [] = Unit {0}
AreRead told [] (bytes ∷ contents) = ⊥
AreRead told (file ∷ files) [] = ⊥
AreRead told (file ∷ files) (bytes ∷ contents) =
    IsRead told file bytes × AreRead told files contents

-- no file has more bytes than its role allows
abbrev pub AreWithin : List NamedFile → List (List ℕ) → Type 0
AreWithin [] [] = Unit {0}
AreWithin [] (bytes ∷ contents) = ⊥
AreWithin (file ∷ files) [] = ⊥
AreWithin (file ∷ files) (bytes ∷ contents) =
    (length bytes ≤ limit_of file.role) × AreWithin files contents

-- the answer where a file of a role couldn't be read
abbrev pub status_of_load : Role → LoadFault → Status
status_of_load role load.Missing = Missing role
status_of_load role load.Failed = ReadFault role
status_of_load role load.TooLong = TooLong role (limit_of role)
status_of_load role load.Memory = Memory

-- a file couldn't be read, and this is the answer
pub record StopsAt (files : Reading) (file : NamedFile) (status : Status) : Type 0 where
  pub fault : LoadFault
  pub load : IsLoad (holding_of files.told file.name)
      (limit_of file.role) files.faults.before files.faults.after (Err fault)
  pub same : status ≡ status_of_load file.role fault

-- the first of the named files that couldn't be read
pub record StopsIn (files : Reading) (named : List NamedFile) (status : Status) : Type 0 where
  pub before : List NamedFile
  pub file : NamedFile
  pub behind : List NamedFile
  pub place : named ≡ before ++ file ∷ behind
  pub contents : List (List ℕ)
  pub read : AreRead files.told before contents
  pub stop : StopsAt files file status

-- the same where what the files hold is told: the bytes of a file of a role, by what its name holds
abbrev pub held_bytes : Role → Option (List ℕ) → Result (List ℕ) Status
held_bytes role None = Err (Missing role)
held_bytes role (Some bytes) =
    if nat_lt (limit_of role) (length bytes) then Err (TooLong role (limit_of role)) else Ok bytes

abbrev pub told_bytes : Names → NamedFile → Result (List ℕ) Status
told_bytes names file = held_bytes file.role (lookup names file.name)

-- the bytes of each file, or the first refusal
abbrev pub told_contents : Names → List NamedFile → Result (List (List ℕ)) Status
told_contents names [] = Ok []
told_contents names (file ∷ files) = do
  bytes ← told_bytes names file
  contents ← told_contents names files
  Ok (bytes ∷ contents)
