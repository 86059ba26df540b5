-- What fetch reads.
use Rattle.std.specs.Prelude.{ℕ, ◌+◌, Bool, ◌&&◌, if◌then◌else◌, Option, Some, None}
use Rattle.fsim_base.specs.Memory.{from_bytes}

-- whether four bytes from an address all pass a test
abbrev pub all_four : (ℕ → Bool) → ℕ → Bool
all_four test addr = test addr && test (addr + 1) && test (addr + 2) && test (addr + 3)

-- the word that fetch reads, where its four bytes are text
abbrev pub fetched : (ℕ → Bool) → (ℕ → ℕ) → ℕ → Option ℕ
fetched is_text text addr = if all_four is_text addr then Some (from_bytes 4 addr text) else None
