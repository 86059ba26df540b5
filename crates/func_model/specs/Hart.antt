-- What the parts of the functional side stand for.
use Rattle.std.specs.Prelude.{◌≡◌, ℕ, Bool, ◌&&◌, ◌%◌, ◌+◌, ◌==◌, if◌then◌else◌, Option, Some, None, slice_index, unwrap_or, ◌<◌}
use Rattle.fsim_base.specs.Memory.{from_bytes}
use Rattle.fsim_base.specs.declared.cause.Cause.TheVariants.{InstructionMisaligned, InstructionAccess}
use Rattle.rv_decode.specs.Decode.{decode_of}
use Rattle.rv_decode.specs.Fits.{Fits}
use Rattle.rv_decode.specs.Class.{sources_of, dest_of, class_of}
use Rattle.rv_exec.specs.Bare.{bare_of, insn_in}
use Rattle.device_bus.specs.Bus.{Devices}
use Rattle.mono_model.specs.Arch.{Arch}
use Rattle.mono_model.specs.Found.{Found, refused, unknown, known, found_word}
use Rattle.func_model.specs.declared.found.Decoded.{Decoded}
use Rattle.func_model.specs.declared.found.Fetched.{Fetched}
use Rattle.func_model.specs.declared.found.Fetched.TheVariants as code
use Rattle.func_model.specs.declared.hart.Hart.{Hart}
use Rattle.phys_mem.specs.Ram.{ram_of, text_of, exec_of}

-- the code's answer of a fetch as what was found
abbrev pub found_in : Fetched → Found
found_in (code.Refused cause) = refused cause
found_in (code.Unknown word) = unknown word
found_in (code.Known decoded) = known decoded.word decoded.insn

-- a register that is written, by its number, which is 0 where none is
abbrev pub IsWritten : Option ℕ → ℕ → Type 0
IsWritten None number = number ≡ 0
IsWritten (Some register) number = (number ≡ register) × (0 < register)

-- an instruction is one that some word spells, and what is kept with it is what is read off it
pub record DecodedFits (decoded : Decoded) : Type 0 where
  pub fits : Fits decoded.insn
  pub bare : insn_in decoded.bare ≡ bare_of decoded.insn
  pub first : decoded.first ≡ unwrap_or (sources_of decoded.insn).0 0
  pub second : decoded.second ≡ unwrap_or (sources_of decoded.insn).1 0
  pub first_exists : decoded.first < 32
  pub second_exists : decoded.second < 32
  pub destination : decoded.destination ≡ dest_of decoded.insn
  pub written : IsWritten decoded.destination decoded.written
  pub written_exists : decoded.written < 32
  pub class : decoded.class ≡ class_of decoded.insn

-- so is an instruction that was found
abbrev pub FetchedFits : Fetched → Type 0
FetchedFits (code.Refused cause) = Unit {0}
FetchedFits (code.Unknown word) = Unit {0}
FetchedFits (code.Known decoded) = DecodedFits decoded

-- what fetch finds at an address, by the executable addresses and the text
abbrev pub has_text_by : (ℕ → Bool) → ℕ → Bool
has_text_by is_text addr = is_text addr && is_text (addr + 1) && is_text (addr + 2) && is_text (addr + 3)

unfoldable pub found_by : (ℕ → Bool) → (ℕ → ℕ) → ℕ → Found
found_by is_text text addr =
    if addr % 4 == 0
    then (if has_text_by is_text addr then found_word (from_bytes 4 addr text) (decode_of (from_bytes 4 addr text)) else refused InstructionAccess)
    else refused InstructionMisaligned

-- what fetch finds at the next address of a hart
abbrev pub next_found : Hart → Found
next_found hart = found_by (exec_of hart.memory) (text_of hart.memory) hart.pc

-- a register that exists, if there is one
abbrev pub IsRegister : Option ℕ → Type 0
IsRegister None = Unit {0}
IsRegister (Some register) = register < 32

-- the state of a hart, with its devices
unfoldable pub arch_of : Hart → Devices → Arch
arch_of hart devices = record {
  pc = hart.pc;
  regs = λ register. slice_index hart.regs register;
  ram = ram_of hart.memory;
  text = text_of hart.memory;
  csrs = hart.csrs;
  devices = devices;
  output = hart.output.items;
}
