-- The target description that is told to GDB (GDB manual, "Target Descriptions", "RISC-V
-- Features"). Without the line on the ABI GDB takes a program for one of GNU/Linux, and steps by
-- breakpoints of its own.
use Rattle.std.specs.Prelude.{ℕ, suc, List, [], ◌∷◌, ◌++◌, codes, decimal}
use Rattle.std.specs.List.{flat_map}
use Rattle.mono_model.specs.Report.{Text, line_feed}
use Rattle.gdb_model.specs.Registers.{csr_number}

-- a register: its number, its name, and what GDB takes its value for
pub record Described : Type 0 where
  pub number : ℕ
  pub name : Text
  pub type : Text

abbrev described : ℕ → Text → Text → Described
described number name type = record { number = number; name = name; type = type }

abbrev number_type : Text
number_type = codes "int"

abbrev code_type : Text
code_type = codes "code_ptr"

abbrev data_type : Text
data_type = codes "data_ptr"

-- without a sign: an address in a CSR can be a breakpoint's
abbrev word_type : Text
word_type = codes "uint32"

-- registers of one type with successive numbers
abbrev numbered : ℕ → List Text → List Described
numbered number [] = []
numbered number (name ∷ names) = described number name number_type ∷ numbered (suc number) names

-- x0 to x31 by the names of the ABI, and pc
abbrev pub cpu_registers : List Described
cpu_registers =
    described 0 (codes "zero") number_type
    ∷ described 1 (codes "ra") code_type
    ∷ described 2 (codes "sp") data_type
    ∷ described 3 (codes "gp") data_type
    ∷ described 4 (codes "tp") data_type
    ∷ numbered 5 (codes "t0" ∷ codes "t1" ∷ codes "t2" ∷ [])
    ++ described 8 (codes "fp") data_type
    ∷ numbered 9 (codes "s1" ∷ codes "a0" ∷ codes "a1" ∷ codes "a2" ∷ codes "a3" ∷ codes "a4"
    ∷ codes "a5" ∷ codes "a6" ∷ codes "a7" ∷ codes "s2" ∷ codes "s3" ∷ codes "s4" ∷ codes "s5"
    ∷ codes "s6" ∷ codes "s7" ∷ codes "s8" ∷ codes "s9" ∷ codes "s10" ∷ codes "s11" ∷ codes "t3"
    ∷ codes "t4" ∷ codes "t5" ∷ codes "t6" ∷ [])
    ++ described 32 (codes "pc") code_type ∷ []

abbrev csr : ℕ → Text → Text → Described
csr address name type = described (csr_number address) name type

abbrev pub csr_registers : List Described
csr_registers =
    csr 0x300 (codes "mstatus") word_type
    ∷ csr 0x301 (codes "misa") word_type
    ∷ csr 0x304 (codes "mie") word_type
    ∷ csr 0x305 (codes "mtvec") code_type
    ∷ csr 0x310 (codes "mstatush") word_type
    ∷ csr 0x320 (codes "mcountinhibit") word_type
    ∷ csr 0x340 (codes "mscratch") word_type
    ∷ csr 0x341 (codes "mepc") code_type
    ∷ csr 0x342 (codes "mcause") word_type
    ∷ csr 0x343 (codes "mtval") word_type
    ∷ csr 0x344 (codes "mip") word_type
    ∷ csr 0x3A0 (codes "pmpcfg0") word_type
    ∷ csr 0x3B0 (codes "pmpaddr0") word_type
    ∷ csr 0xB00 (codes "mcycle") word_type
    ∷ csr 0xB02 (codes "minstret") word_type
    ∷ csr 0xB80 (codes "mcycleh") word_type
    ∷ csr 0xB82 (codes "minstreth") word_type
    ∷ csr 0xC00 (codes "cycle") word_type
    ∷ csr 0xC01 (codes "time") word_type
    ∷ csr 0xC02 (codes "instret") word_type
    ∷ csr 0xC80 (codes "cycleh") word_type
    ∷ csr 0xC81 (codes "timeh") word_type
    ∷ csr 0xC82 (codes "instreth") word_type
    ∷ csr 0xF11 (codes "mvendorid") word_type
    ∷ csr 0xF12 (codes "marchid") word_type
    ∷ csr 0xF13 (codes "mimpid") word_type
    ∷ csr 0xF14 (codes "mhartid") word_type
    ∷ csr 0xF15 (codes "mconfigptr") word_type
    ∷ []

abbrev register_line : Described → Text
register_line r =
    codes "<reg name=\"" ++ r.name ++ codes "\" bitsize=\"32\" type=\"" ++ r.type ++ codes "\" regnum=\""
    ++ decimal r.number ++ codes "\"/>" ++ line_feed

abbrev feature : Text → List Described → Text
feature name registers =
    codes "<feature name=\"" ++ name ++ codes "\">" ++ line_feed ++ flat_map register_line registers
    ++ codes "</feature>" ++ line_feed

unfoldable pub description : Text
description =
    codes "<?xml version=\"1.0\"?>" ++ line_feed
    ++ codes "<!DOCTYPE target SYSTEM \"gdb-target.dtd\">" ++ line_feed
    ++ codes "<target version=\"1.0\">" ++ line_feed
    ++ codes "<architecture>riscv:rv32</architecture>" ++ line_feed
    ++ codes "<osabi>none</osabi>" ++ line_feed
    ++ feature (codes "org.gnu.gdb.riscv.cpu") cpu_registers
    ++ feature (codes "org.gnu.gdb.riscv.csr") csr_registers
    ++ codes "</target>" ++ line_feed
