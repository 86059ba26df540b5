-- What an image puts into memory.
use Rattle.std.specs.Prelude.{ℕ, ◌+◌, ◌-◌, Bool, false, ◌&&◌, ◌||◌, nat_lt, nat_le, if◌then◌else◌}
use Rattle.std.specs.Prelude.{List, [], ◌∷◌, slice_index}
use Rattle.elf_image.specs.declared.segment.Segment.{Segment}
use Rattle.elf_image.specs.declared.image.Image.{Image}

-- whether the address is one of the segment's
abbrev pub holds : Segment → ℕ → Bool
holds s addr = nat_le s.addr addr && nat_lt addr (s.addr + s.size)

-- the byte that the segments put at an address: a segment's byte, and zero behind its bytes and
-- outside all segments
abbrev pub segments_byte : List Segment → ℕ → ℕ
segments_byte [] addr = 0
segments_byte (s ∷ rest) addr =
    if holds s addr then slice_index s.bytes (addr - s.addr) else segments_byte rest addr

unfoldable pub image_byte : Image → ℕ → ℕ
image_byte image addr = segments_byte image.segments addr

-- whether the address lies in an executable segment
abbrev pub in_executable : List Segment → ℕ → Bool
in_executable [] addr = false
in_executable (s ∷ rest) addr = (s.exec && holds s addr) || in_executable rest addr

unfoldable pub is_executable : Image → ℕ → Bool
is_executable image addr = in_executable image.segments addr
