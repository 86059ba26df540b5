-- Words for worked examples: images made of words, machine files by the keys that differ from the defaults, setups, and
-- what is reported by what differs from the start.
use Rattle.std.specs.Prelude.{ℕ, ◌*◌, ◌/◌, ◌%◌, ◌^◌, ◌-◌, ◌==◌, if◌then◌else◌, true, false, List, [], ◌∷◌, ◌++◌, length}
use Rattle.elf_image.specs.declared.segment.Segment.{Segment}
use Rattle.elf_image.specs.declared.image.Image.{Image}
use Rattle.mono_model.specs.declared.params.Params.{Params}
use Rattle.mono_model.specs.declared.setup.Setup.{Setup}
use Rattle.mono_model.specs.Plain.{plain_params}
use Rattle.mono_model.specs.declared.final_state.Stats.{Stats}
use Rattle.mono_model.specs.Final.{registers_from}

-- the bytes of a word, the lowest first
abbrev pub word_bytes : ℕ → List ℕ
word_bytes word = word % 256 ∷ word / 256 % 256 ∷ word / 65536 % 256 ∷ word / 16777216 ∷ []

abbrev pub words_bytes : List ℕ → List ℕ
words_bytes [] = []
words_bytes (word ∷ words) = word_bytes word ++ words_bytes words

-- the words of a program at 0x80000000, executable
abbrev pub code_segment : List ℕ → Segment
code_segment words = record { index = 0; addr = 0x80000000; size = 4 * length words; exec = true; bytes = words_bytes words }

-- a program alone; it is entered at its first word
abbrev pub code_image : List ℕ → Image
code_image words = record { entry = 0x80000000; segments = code_segment words ∷ [] }

-- a program, and a segment of data of so many bytes, of which the first are the words
abbrev pub data_image : List ℕ → ℕ → ℕ → List ℕ → Image
data_image words addr size contents = record {
  entry = 0x80000000;
  segments = code_segment words ∷ record { index = 1; addr = addr; size = size; exec = false; bytes = words_bytes contents } ∷ [];
}

-- the machine file without keys
abbrev pub plain_machine : Params
plain_machine = plain_params

-- a run with an empty input and the limits of a command line without options
abbrev pub setup_of : Image → Params → Setup
setup_of image params = record { image = image; params = params; input = []; cycles = 10000000; output = 16777216; ring = 64 }

-- counts under a machine file of version 1, before anything is counted
abbrev pub no_stats : Stats
no_stats = record {
  version = 1;
  cycles = 0;
  instructions = 0;
  exceptions = 0;
  interrupts = 0;
  replays = 0;
  fetched = 0;
  squashed = 0;
  branches = 0;
  mispredicted = 0;
  icache_accesses = 0;
  icache_misses = 0;
  dcache_accesses = 0;
  dcache_misses = 0;
  l2_accesses = 0;
  l2_misses = 0;
  writebacks = 0;
  output = 0;
}

-- the registers, of those that aren't 0
abbrev pub value_among : List (ℕ × ℕ) → ℕ → ℕ
value_among [] register = 0
value_among (entry ∷ entries) register = if entry.0 == register then entry.1 else value_among entries register

abbrev pub registers : List (ℕ × ℕ) → List ℕ
registers entries = registers_from 32 (value_among entries)

-- mtimecmp at the start
abbrev pub never : ℕ
never = 2 ^ 64 - 1
