-- The bytes of a page, and the marks that say which of them are text.
use Rattle.std.specs.Prelude.{ℕ, ◌/◌, ◌%◌, Bool, ◌==◌, List, slice_index}
use Rattle.std.specs.Int.{bit_at}

-- a page as memory of its own, by offset
abbrev pub bytes_of : List ℕ → (ℕ → ℕ)
bytes_of page = λ offset. slice_index page offset

-- whether the byte at an offset is marked: one bit for each byte
abbrev pub is_marked : List ℕ → ℕ → Bool
is_marked marks offset = bit_at (slice_index marks (offset / 8)) (offset % 8) == 1
