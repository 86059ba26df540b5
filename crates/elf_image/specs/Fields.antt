-- The fields of an ELF file of 32 bits, by their places, little endian (Tool Interface Standard,
-- Executable and Linking Format specification 1.2, figure 1-3: ELF header, and figure 2-1: program
-- header).
use Rattle.std.specs.Prelude.{ℕ, ◌+◌, ◌*◌, ◌<◌, ◌≤◌, List, length, drop, slice_index}
use Rattle.byteorder.specs.Endian.{little_number}
use Rattle.elf_image.specs.declared.header.ProgramHeader.{ProgramHeader}

-- the number in `count` bytes from place `at`, the lowest first
unfoldable pub number_at : ℕ → ℕ → List ℕ → ℕ
number_at count at bytes = little_number count (drop at bytes)

-- EI_CLASS and EI_DATA
abbrev pub class_of : List ℕ → ℕ
class_of bytes = slice_index bytes 4

abbrev pub byte_order_of : List ℕ → ℕ
byte_order_of bytes = slice_index bytes 5

-- e_type, e_machine, e_entry, e_phoff, e_phentsize and e_phnum
abbrev pub file_type_of : List ℕ → ℕ
file_type_of bytes = number_at 2 16 bytes

abbrev pub machine_of : List ℕ → ℕ
machine_of bytes = number_at 2 18 bytes

abbrev pub entry_of : List ℕ → ℕ
entry_of bytes = number_at 4 24 bytes

abbrev pub table_place : List ℕ → ℕ
table_place bytes = number_at 4 28 bytes

abbrev pub header_size : List ℕ → ℕ
header_size bytes = number_at 2 42 bytes

abbrev pub header_count : List ℕ → ℕ
header_count bytes = number_at 2 44 bytes

-- where the table of program headers ends
abbrev pub table_end : List ℕ → ℕ
table_end bytes = table_place bytes + 32 * header_count bytes

-- the program header at the front of some bytes: eight words, of which p_vaddr and p_align don't
-- matter
unfoldable pub header_of : List ℕ → ProgramHeader
header_of bytes = record {
  kind = number_at 4 0 bytes;
  offset = number_at 4 4 bytes;
  address = number_at 4 12 bytes;
  file_size = number_at 4 16 bytes;
  memory_size = number_at 4 20 bytes;
  flags = number_at 4 24 bytes;
}

-- the i-th entry of the table of program headers, from 0
unfoldable pub header_at : List ℕ → ℕ → ProgramHeader
header_at bytes i = header_of (drop (table_place bytes + 32 * i) bytes)

-- there is an ELF header, and the table of at most 64 program headers lies inside the file
pub record HasTable (bytes : List ℕ) : Type 0 where
  pub header : 52 ≤ length bytes
  pub few : header_count bytes ≤ 64
  pub table : (i : ℕ) → i < header_count bytes → table_place bytes + 32 * i + 32 ≤ length bytes
