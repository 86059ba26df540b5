-- How the headers that are written read.
use Rattle.std.proofs.Common.{◌≡◌, ℕ, ◌<◌, ◌≤◌, ◌^◌, true, List, ◌++◌, nat_eq, length, drop, refl, arith}
use Rattle.std.specs.List.{starts_with}
use Rattle.byteorder.specs.Numbers.{little_number-reads_back}
use Rattle.elf_image.specs.declared.header.ProgramHeader.{ProgramHeader}
use Rattle.elf_image.specs.Fields.{number_at, header_of, class_of, byte_order_of, file_type_of, machine_of, entry_of, table_place, header_size, header_count}
use Rattle.elf_image.specs.Image.{magic}
use Rattle.elf_image.specs.Write.{file_header, program_header}

-- the fields of a file that begins with an ELF header
pub record HasHeader (file : List ℕ) (start number : ℕ) : Type 0 where
  pub long : 52 ≤ length file
  pub magic : starts_with nat_eq file magic ≡ true
  pub class : class_of file ≡ 1
  pub byte_order : byte_order_of file ≡ 1
  pub file_type : file_type_of file ≡ 2
  pub machine : machine_of file ≡ 243
  pub entry : entry_of file ≡ start
  pub table : table_place file ≡ 52
  pub size : header_size file ≡ 32
  pub count : header_count file ≡ number

pub HasHeader-file_header : (entry count : ℕ) (rest : List ℕ) → entry < 2 ^ 32 → count ≤ 64 → HasHeader (file_header entry count ++ rest) entry count
unfolding file_header number_at
HasHeader-file_header entry count rest fits few =
    record {
      long = omega arith;
      magic = refl;
      class = refl;
      byte_order = refl;
      file_type = refl;
      machine = refl;
      entry = little_number-reads_back 4 entry (drop 28 (file_header entry count ++ rest)) (omega arith);
      table = refl;
      size = refl;
      count = little_number-reads_back 2 count (drop 46 (file_header entry count ++ rest)) (omega arith);
    }

-- what follows the ELF header
pub drop-file_header : (entry count : ℕ) (rest : List ℕ) → drop 52 (file_header entry count ++ rest) ≡ rest
unfolding file_header
drop-file_header entry count rest = refl

pub length-file_header : (entry count : ℕ) → length (file_header entry count) ≡ 52
unfolding file_header
length-file_header entry count = refl

-- the fields of a program header are numbers of four bytes
pub record HasFields (h : ProgramHeader) : Type 0 where
  pub kind : h.kind < 2 ^ 32
  pub offset : h.offset < 2 ^ 32
  pub address : h.address < 2 ^ 32
  pub file_size : h.file_size < 2 ^ 32
  pub memory_size : h.memory_size < 2 ^ 32
  pub flags : h.flags < 2 ^ 32

-- a program header reads as it was written
pub header_of-program_header : (h : ProgramHeader) (rest : List ℕ) → HasFields h → header_of (program_header h ++ rest) ≡ h
unfolding header_of program_header number_at
header_of-program_header h rest fits =
    let kind = little_number-reads_back 4 h.kind (drop 4 (program_header h ++ rest)) fits.kind in
    let offset = little_number-reads_back 4 h.offset (drop 8 (program_header h ++ rest)) fits.offset in
    let address = little_number-reads_back 4 h.address (drop 16 (program_header h ++ rest)) fits.address in
    let file_size = little_number-reads_back 4 h.file_size (drop 20 (program_header h ++ rest)) fits.file_size in
    let memory_size = little_number-reads_back 4 h.memory_size (drop 24 (program_header h ++ rest)) fits.memory_size in
    let flags = little_number-reads_back 4 h.flags (drop 28 (program_header h ++ rest)) fits.flags in
    λ i. record { kind = kind i; offset = offset i; address = address i; file_size = file_size i; memory_size = memory_size i; flags = flags i }

pub drop-program_header : (h : ProgramHeader) (rest : List ℕ) → drop 32 (program_header h ++ rest) ≡ rest
unfolding program_header
drop-program_header h rest = refl

pub length-program_header : (h : ProgramHeader) → length (program_header h) ≡ 32
unfolding program_header
length-program_header h = refl
