-- What loading puts into memory and makes text.
use Rattle.std.specs.Prelude.{ℕ, ◌+◌, ◌-◌, Bool, ◌&&◌, ◌||◌, nat_le, nat_lt, if◌then◌else◌, List, length, slice_index}
use Rattle.elf_image.specs.declared.segment.Segment.{Segment}
use Rattle.elf_image.specs.Load.{holds}

-- memory with bytes put into it from an address on
abbrev pub with_bytes : ℕ → List ℕ → (ℕ → ℕ) → (ℕ → ℕ)
with_bytes addr bytes memory = λ x.
    if nat_le addr x && nat_lt x (addr + length bytes) then slice_index bytes (x - addr) else memory x

-- the text with `size` addresses from one on
abbrev pub with_text : ℕ → ℕ → (ℕ → Bool) → (ℕ → Bool)
with_text addr size is_text = λ x. (nat_le addr x && nat_lt x (addr + size)) || is_text x

-- the text with the addresses of a segment, where it is executable
abbrev pub with_segment : Segment → (ℕ → Bool) → (ℕ → Bool)
with_segment s is_text = λ x. (s.exec && holds s x) || is_text x
