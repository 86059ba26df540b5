-- The file that holds an image: the ELF header, a program header for each segment, and the
-- segments' bytes, in order and without padding (Tool Interface Standard, Executable and Linking
-- Format specification 1.2, figures 1-3 and 2-1).
use Rattle.std.specs.Prelude.{◌≡◌, ℕ, ◌+◌, ◌*◌, ◌<◌, ◌^◌, if◌then◌else◌, List, [], ◌∷◌, ◌++◌}
use Rattle.std.specs.Prelude.{length, map, flat_map, replicate}
use Rattle.std.specs.List.{range_with_len}
use Rattle.byteorder.specs.Endian.{little_bytes}
use Rattle.elf_image.specs.declared.header.ProgramHeader.{ProgramHeader}
use Rattle.elf_image.specs.declared.segment.Segment.{Segment}
use Rattle.elf_image.specs.declared.image.Image.{Image}
use Rattle.elf_image.specs.Image.{magic}

-- numbers of two and of four bytes, one after the other
abbrev pub halves : List ℕ → List ℕ
halves numbers = flat_map (little_bytes 2) numbers

abbrev pub words : List ℕ → List ℕ
words numbers = flat_map (little_bytes 4) numbers

-- e_ident: the magic, class, byte order, version and padding
abbrev pub ident : List ℕ
ident = magic ++ (1 ∷ 1 ∷ 1 ∷ []) ++ replicate 9 0

-- e_type and e_machine; e_version, e_entry, e_phoff, e_shoff and e_flags; e_ehsize, e_phentsize,
-- e_phnum, e_shentsize, e_shnum and e_shstrndx
unfoldable pub file_header : ℕ → ℕ → List ℕ
file_header entry count =
    ident ++ halves (2 ∷ 243 ∷ []) ++ words (1 ∷ entry ∷ 52 ∷ 0 ∷ 0 ∷ [])
    ++ halves (52 ∷ 32 ∷ count ∷ 0 ∷ 0 ∷ 0 ∷ [])

-- p_type, p_offset, p_vaddr, p_paddr, p_filesz, p_memsz, p_flags and p_align
unfoldable pub program_header : ProgramHeader → List ℕ
program_header h =
    words (h.kind ∷ h.offset ∷ h.address ∷ h.address ∷ h.file_size ∷ h.memory_size ∷ h.flags ∷ 4
    ∷ [])

-- the program header of a segment whose bytes stand at `offset`: PT_LOAD, with PF_R and PF_X or
-- PF_R and PF_W
abbrev pub header_for : Segment → ℕ → ProgramHeader
header_for s offset = record {
  kind = 1;
  offset = offset;
  address = s.addr;
  file_size = length s.bytes;
  memory_size = s.size;
  flags = if s.exec then 5 else 6;
}

-- the program headers of segments whose bytes stand one after the other from `offset` on
abbrev pub program_headers : List Segment → ℕ → List ℕ
program_headers [] offset = []
program_headers (s ∷ rest) offset =
    program_header (header_for s offset) ++ program_headers rest (offset + length s.bytes)

-- the bytes of the segments
abbrev pub contents_of : List Segment → List ℕ
contents_of segments = flat_map (λ s. s.bytes) segments

-- the whole file
unfoldable pub file_of : Image → List ℕ
file_of image =
    let count = length image.segments in
    file_header image.entry count ++ program_headers image.segments (52 + 32 * count)
    ++ contents_of image.segments

-- the segments' indexes count from 0 without a gap
abbrev pub IsNumbered : Image → Type 0
IsNumbered image = map (λ s. s.index) image.segments ≡ range_with_len 0 (length image.segments)

-- the segment's address and size are numbers of four bytes
pub record HasWords (s : Segment) : Type 0 where
  pub addr : s.addr < 2 ^ 32
  pub size : s.size < 2 ^ 32
