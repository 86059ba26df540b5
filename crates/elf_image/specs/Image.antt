-- Which bytes are an image for a range of RAM, and which image they are. Sums don't wrap.
use Rattle.std.specs.Prelude.{◌≡◌, ℕ, ◌+◌, ◌%◌, ◌<◌, ◌≤◌, Bool, true, not, ◌&&◌, if◌then◌else◌}
use Rattle.std.specs.Prelude.{◌==◌, nat_lt, nat_eq, min, max, List, [], ◌∷◌, ◌++◌, length, take}
use Rattle.std.specs.Prelude.{drop, map, filter, flat_map, Option, Some, None}
use Rattle.std.specs.List.{starts_with, range_with_len}
use Rattle.fsim_base.specs.declared.access.RamRange.{RamRange}
use Rattle.fsim_base.specs.Range.{is_inside}
use Rattle.elf_image.specs.declared.fault.ImageFault.{ImageFault}
use Rattle.elf_image.specs.declared.fault.ImageFault.TheVariants.{Short, Magic, Class, Endian}
use Rattle.elf_image.specs.declared.fault.ImageFault.TheVariants.{FileType, Machine, EntrySize}
use Rattle.elf_image.specs.declared.fault.ImageFault.TheVariants.{Count, TableOutside, FileOutside}
use Rattle.elf_image.specs.declared.fault.ImageFault.TheVariants.{Larger, OutsideRam, Overlap}
use Rattle.elf_image.specs.declared.segment.Segment.{Segment}
use Rattle.elf_image.specs.declared.image.Image.{Image}
use Rattle.elf_image.specs.Fields.{header_at, class_of, byte_order_of, file_type_of, machine_of}
use Rattle.elf_image.specs.Fields.{entry_of, table_end, header_size, header_count}

-- a fault, and whether its condition holds
abbrev pub Row : Type 0
Row = ImageFault × Bool

-- the fault of the first row whose condition holds
abbrev pub first_fault : List Row → Option ImageFault
first_fault [] = None
first_fault (row ∷ rows) = if row.1 then Some row.0 else first_fault rows

-- 7F, and E, L, F
abbrev pub magic : List ℕ
magic = 0x7f ∷ 0x45 ∷ 0x4c ∷ 0x46 ∷ []

-- the faults of the ELF header, in the order in which they are tested
unfoldable pub file_rows : List ℕ → List Row
file_rows bytes =
    (Short, nat_lt (length bytes) 52)
    ∷ (Magic, not (starts_with nat_eq bytes magic))
    ∷ (Class, not (class_of bytes == 1))
    ∷ (Endian, not (byte_order_of bytes == 1))
    ∷ (FileType, not (file_type_of bytes == 2))
    ∷ (Machine, not (machine_of bytes == 243))
    ∷ (EntrySize, nat_lt 0 (header_count bytes) && not (header_size bytes == 32))
    ∷ (Count (header_count bytes), nat_lt 64 (header_count bytes))
    ∷ (TableOutside, nat_lt 0 (header_count bytes) && nat_lt (length bytes) (table_end bytes))
    ∷ []

-- whether two runs of bytes, given by their first addresses and sizes, share a byte: the later
-- begins before the earlier ends
abbrev pub share_a_byte : ℕ → ℕ → ℕ → ℕ → Bool
share_a_byte addr size addr' size' = nat_lt (max addr addr') (min (addr + size) (addr' + size'))

-- whether the i-th program header is one of a part to be loaded (PT_LOAD)
abbrev pub is_load : List ℕ → ℕ → Bool
is_load bytes i = (header_at bytes i).kind == 1

-- the fault of the i-th program header, a load header, against an earlier one
abbrev pub overlap_row : List ℕ → ℕ → ℕ → Row
overlap_row bytes i earlier =
    let a = header_at bytes i in
    let b = header_at bytes earlier in
    (Overlap i earlier, share_a_byte a.address a.memory_size b.address b.memory_size)

-- the same against each load header among `count` from `first` on
abbrev pub overlap_rows : List ℕ → ℕ → ℕ → ℕ → List Row
overlap_rows bytes i first count =
    map (overlap_row bytes i) (filter (is_load bytes) (range_with_len first count))

-- the faults of the i-th program header, a load header, in the order in which they are tested
unfoldable pub header_rows : List ℕ → RamRange → ℕ → List Row
header_rows bytes ram i =
    let header = header_at bytes i in
    (FileOutside i, nat_lt (length bytes) (header.offset + header.file_size))
    ∷ (Larger i, nat_lt header.memory_size header.file_size)
    ∷ (
      OutsideRam i,
      nat_lt 0 header.memory_size
          && not (is_inside ram header.address header.memory_size),
    )
    ∷ overlap_rows bytes i 0 i

-- the faults of `count` program headers from the i-th on, in table order
abbrev pub table_rows : List ℕ → RamRange → ℕ → ℕ → List Row
table_rows bytes ram i count =
    flat_map (header_rows bytes ram) (filter (is_load bytes) (range_with_len i count))

-- the first fault of the bytes, if there is one
unfoldable pub image_fault : List ℕ → RamRange → Option ImageFault
image_fault bytes ram = first_fault (file_rows bytes ++ table_rows bytes ram 0 (header_count bytes))

-- what the i-th program header puts into RAM
unfoldable pub segment_at : List ℕ → ℕ → Segment
segment_at bytes i = let header = header_at bytes i in record {
  index = i;
  addr = header.address;
  size = header.memory_size;
  exec = header.flags % 2 == 1;
  bytes = take header.file_size (drop header.offset bytes);
}

-- whether it puts anything there
abbrev pub has_segment : List ℕ → ℕ → Bool
has_segment bytes i = is_load bytes i && nat_lt 0 (header_at bytes i).memory_size

-- the segments of `count` program headers from the i-th on, in table order
abbrev pub segments_of : List ℕ → ℕ → ℕ → List Segment
segments_of bytes i count =
    map (segment_at bytes) (filter (has_segment bytes) (range_with_len i count))

-- the image that the bytes are, where they have no fault
unfoldable pub image_of : List ℕ → Image
image_of bytes =
    record { entry = entry_of bytes; segments = segments_of bytes 0 (header_count bytes) }

-- the bytes that the load headers name lie inside the file
pub record HasContents (bytes : List ℕ) : Type 0 where
  pub each : (i : ℕ) → i < header_count bytes → is_load bytes i ≡ true
      → (header_at bytes i).offset + (header_at bytes i).file_size ≤ length bytes

-- the bytes are this image for this range of RAM
pub record IsImage (bytes : List ℕ) (ram : RamRange) (image : Image) : Type 0 where
  pub clear : image_fault bytes ram ≡ None
  pub same : image ≡ image_of bytes
