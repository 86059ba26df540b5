use Rattle.std.proofs.Common.{◌≡◌, ℕ, ◌+◌, ◌-◌, ◌≤◌, List, length, take, Option}
use Rattle.fsim_ports.specs.Files.{Names, Holding, Untold, Absent, Holds, holding_of}
use Rattle.fsim_ports.proofs.load.load_file.Given as goal

-- where the name is told to hold a file, the bytes are its first
abbrev pub IsFront : Holding → List ℕ → Type 0
IsFront Untold bytes = Unit {0}
IsFront Absent bytes = Unit {0}
IsFront (Holds file) bytes = bytes ≡ take (length bytes) file

-- the bytes are the first of the file, and no more than the limit
pub record LoadsUpTo (start told : Option Names) (before now : ℕ) (name : List ℕ) (limit : ℕ) (bytes : List ℕ) : Type 0 where
  pub same : told ≡ start
  pub count : before ≤ now
  pub within : length bytes ≤ limit
  pub front : IsFront (holding_of start name) bytes

abbrev pub invariant-loop-count : goal.invariant-loop-count
invariant-loop-count g l = LoadsUpTo (g.F.Files.told l.initial.files) (g.F.Files.told l.files) (g.F.Files.faults l.initial.files) (g.F.Files.faults l.files) l.name l.limit l.bytes.items

abbrev pub decreases-loop-count : goal.decreases-loop-count
decreases-loop-count g l = l.limit + 1 - length l.bytes.items
