-- What stands at an address (RISC-V unprivileged manual, section 1.5, instruction fetch; section 2.2, IALIGN = 32).
use Rattle.std.specs.Prelude.{ℕ, ◌+◌, ◌%◌, ◌==◌, ◌&&◌, if◌then◌else◌, Bool, true, false, Option, Some, None}
use Rattle.fsim_base.specs.Memory.{from_bytes}
use Rattle.fsim_base.specs.declared.cause.Cause.{Cause}
use Rattle.fsim_base.specs.declared.cause.Cause.TheVariants.{InstructionMisaligned, InstructionAccess}
use Rattle.fsim_base.specs.declared.instruction.Class.{Class}
use Rattle.fsim_base.specs.declared.instruction.Class.TheVariants as class
use Rattle.fsim_base.specs.declared.instruction.Flow.{Flow}
use Rattle.fsim_base.specs.declared.instruction.Flow.TheVariants.{Plain}
use Rattle.rv_decode.specs.declared.insn.Insn.{Insn}
use Rattle.rv_decode.specs.declared.insn.Insn.TheVariants.{Csr, Fence, Mret}
use Rattle.rv_decode.specs.Decode.{decode_of}
use Rattle.rv_decode.specs.Class.{class_of, flow_of, sources_of, dest_of}
use Rattle.elf_image.specs.declared.image.Image.{Image}
use Rattle.elf_image.specs.Load.{is_executable}

pub data Found : Type 0 where
  -- nothing can be fetched there
  refused : Cause → Found
  -- a word that is no instruction
  unknown : ℕ → Found
  -- a word and its instruction
  known : ℕ → Insn → Found

-- a word, by what it decodes to
abbrev pub found_word : ℕ → Option Insn → Found
found_word word None = unknown word
found_word word (Some insn) = known word insn

-- four bytes from an address all lie in executable segments
abbrev pub has_text : Image → ℕ → Bool
has_text image addr =
    is_executable image addr && is_executable image (addr + 1) && is_executable image (addr + 2) && is_executable image (addr + 3)

-- what fetch finds at an address: its alignment is tested first, then whether there is text, then the word
unfoldable pub found_at : Image → (ℕ → ℕ) → ℕ → Found
found_at image text addr =
    if addr % 4 == 0
    then (if has_text image addr then found_word (from_bytes 4 addr text) (decode_of (from_bytes 4 addr text)) else refused InstructionAccess)
    else refused InstructionMisaligned

-- the word, and 0 where nothing can be fetched
abbrev pub word_in : Found → ℕ
word_in (refused cause) = 0
word_in (unknown word) = word
word_in (known word insn) = word

abbrev pub is_fetchable : Found → Bool
is_fetchable (refused cause) = false
is_fetchable (unknown word) = true
is_fetchable (known word insn) = true

-- class, flow, sources and destination: those of the instruction; what is no instruction has neither source nor destination
abbrev pub class_in : Found → Class
class_in (refused cause) = class.Alu
class_in (unknown word) = class.Alu
class_in (known word insn) = class_of insn

abbrev pub flow_in : Found → Flow
flow_in (refused cause) = Plain
flow_in (unknown word) = Plain
flow_in (known word insn) = flow_of insn

abbrev pub first_source : Found → Option ℕ
first_source (refused cause) = None
first_source (unknown word) = None
first_source (known word insn) = (sources_of insn).0

abbrev pub second_source : Found → Option ℕ
second_source (refused cause) = None
second_source (unknown word) = None
second_source (known word insn) = (sources_of insn).1

abbrev pub destination_in : Found → Option ℕ
destination_in (refused cause) = None
destination_in (unknown word) = None
destination_in (known word insn) = dest_of insn

-- the instructions that are about the CSRs alone: those of Zicsr, and MRET
abbrev pub is_csr_insn : Insn → Bool
is_csr_insn (Csr kind rd rs1 csr) = true
is_csr_insn insn = false

abbrev pub is_mret_insn : Insn → Bool
is_mret_insn Mret = true
is_mret_insn insn = false

-- FENCE.I
abbrev pub is_fence_i_insn : Insn → Bool
is_fence_i_insn (Fence rd rs1 upper fetch) = fetch
is_fence_i_insn insn = false

abbrev pub is_fence_i : Found → Bool
is_fence_i (refused cause) = false
is_fence_i (unknown word) = false
is_fence_i (known word insn) = is_fence_i_insn insn
