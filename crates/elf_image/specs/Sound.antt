-- Which images can be loaded into a range of RAM.
use Rattle.std.specs.Prelude.{◌≡◌, ◌<◌, ◌≤◌, Bool, true, false, not, ◌&&◌, nat_lt, nat_le, List, []}
use Rattle.std.specs.Prelude.{◌∷◌, length, All, AllPairs}
use Rattle.std.specs.List.{list_all}
use Rattle.fsim_base.specs.declared.access.RamRange.{RamRange}
use Rattle.fsim_base.specs.Range.{IsInside, is_inside}
use Rattle.elf_image.specs.declared.segment.Segment.{Segment}
use Rattle.elf_image.specs.declared.image.Image.{Image}
use Rattle.elf_image.specs.Image.{share_a_byte}

-- the segment takes memory inside RAM, and has no more bytes than that
pub record IsPlaced (ram : RamRange) (s : Segment) : Type 0 where
  pub numbered : s.index < 64
  pub taken : 0 < s.size
  pub filled : length s.bytes ≤ s.size
  pub inside : IsInside ram s.addr s.size

-- no byte of memory belongs to both segments
abbrev pub AreApart : Segment → Segment → Type 0
AreApart a b = share_a_byte a.addr a.size b.addr b.size ≡ false

-- the image can be loaded into this RAM
pub record IsSound (image : Image) (ram : RamRange) : Type 0 where
  pub few : length image.segments ≤ 64
  pub placed : All (IsPlaced ram) image.segments
  pub rising : AllPairs (λ a b. a.index < b.index) image.segments
  pub apart : AllPairs AreApart image.segments

-- the same as a test
abbrev pub is_placed : RamRange → Segment → Bool
is_placed ram s =
    nat_lt s.index 64 && nat_lt 0 s.size && nat_le (length s.bytes) s.size
    && is_inside ram s.addr s.size

abbrev pub is_before : Segment → Segment → Bool
is_before a b = nat_lt a.index b.index && not (share_a_byte a.addr a.size b.addr b.size)

-- whether each segment comes before all later ones
abbrev pub are_ordered : List Segment → Bool
are_ordered [] = true
are_ordered (s ∷ rest) = list_all (is_before s) rest && are_ordered rest

unfoldable pub is_sound : Image → RamRange → Bool
is_sound image ram =
    nat_le (length image.segments) 64 && list_all (is_placed ram) image.segments
    && are_ordered image.segments
