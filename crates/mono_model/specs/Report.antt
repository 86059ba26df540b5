-- The report of a run, as text: lines of ASCII codes. Numbers are decimal; addresses, registers and CSRs are hexadecimal
-- in small letters with all their digits.
use Rattle.std.specs.Prelude.{ℕ, zero, suc, ◌+◌, ◌/◌, ◌%◌, ◌==◌, nat_lt, if◌then◌else◌, Bool, true, false, List, [], ◌∷◌, ◌++◌, codes, decimal, map, slice_index}
use Rattle.machine_csr.specs.Csr.{mstatus_of, mie_of}
use Rattle.mono_model.specs.declared.final_state.End.{End}
use Rattle.mono_model.specs.declared.final_state.End.TheVariants.{Pass, Fail, Limit, OutputFull, Running}
use Rattle.mono_model.specs.declared.final_state.Final.{Final}
use Rattle.mono_model.specs.declared.setup.Setup.{Setup}
use Rattle.mono_model.specs.Cycle.{mono, final}

abbrev pub Text : Type 0
Text = List ℕ

abbrev pub hex_digit : ℕ → ℕ
hex_digit n = if nat_lt n 10 then 48 + n else 87 + n

-- so many hexadecimal digits of a number
abbrev pub hex : ℕ → ℕ → Text
hex zero n = []
hex (suc digits) n = hex digits (n / 16) ++ hex_digit (n % 16) ∷ []

abbrev pub line_feed : Text
line_feed = 10 ∷ []

-- a name and what stands behind it, as a line
abbrev pub line : Text → Text → Text
line name text = name ++ text ++ line_feed

abbrev pub count_line : Text → ℕ → Text
count_line name n = line name (decimal n)

abbrev pub status_text : End → Text
status_text Pass = codes "pass"
status_text (Fail code) = codes "fail " ++ decimal code
status_text Limit = codes "limit"
status_text OutputFull = codes "output full"
status_text Running = codes "running"

abbrev pub misses_line : Text → ℕ → ℕ → Text
misses_line name accesses misses = line name (decimal accesses ++ codes " accesses, " ++ decimal misses ++ codes " misses")

-- `x0=00000000 x1=00000000 x2=00000000 x3=00000000`, from a register on
abbrev pub register_text : List ℕ → ℕ → Text
register_text regs n = codes "x" ++ decimal n ++ codes "=" ++ hex 8 (slice_index regs n)

abbrev pub register_line : List ℕ → ℕ → Text
register_line regs n =
    line (register_text regs n ++ codes " " ++ register_text regs (n + 1) ++ codes " ")
    (register_text regs (n + 2) ++ codes " " ++ register_text regs (n + 3))

abbrev pub register_lines : List ℕ → List Text
register_lines regs = map (register_line regs) (0 ∷ 4 ∷ 8 ∷ 12 ∷ 16 ∷ 20 ∷ 24 ∷ 28 ∷ [])

-- the CSRs as CSRRS would read them
abbrev pub csr_lines : Final → List Text
csr_lines f =
    line (codes "mstatus=" ++ hex 8 (mstatus_of f.csrs) ++ codes " mie=" ++ hex 8 (mie_of f.csrs))
    (codes " mtvec=" ++ hex 8 f.csrs.mtvec ++ codes " mscratch=" ++ hex 8 f.csrs.mscratch)
    ∷ line (codes "mepc=" ++ hex 8 f.csrs.mepc ++ codes " mcause=" ++ hex 8 f.csrs.mcause)
    (codes " mtval=" ++ hex 8 f.csrs.mtval ++ codes " mtimecmp=" ++ hex 16 f.cmp)
    ∷ []

abbrev pub retired_lines : Final → List Text
retired_lines f =
    count_line (codes "instructions: ") f.stats.instructions
    ∷ count_line (codes "exceptions: ") f.stats.exceptions
    ∷ count_line (codes "interrupts: ") f.stats.interrupts
    ∷ []

abbrev pub pipeline_lines : Final → List Text
pipeline_lines f =
    count_line (codes "replays: ") f.stats.replays
    ∷ count_line (codes "fetched: ") f.stats.fetched
    ∷ count_line (codes "squashed: ") f.stats.squashed
    ∷ count_line (codes "branches: ") f.stats.branches
    ∷ count_line (codes "mispredicted: ") f.stats.mispredicted
    ∷ []

abbrev pub first_level_lines : Final → List Text
first_level_lines f =
    misses_line (codes "icache: ") f.stats.icache_accesses f.stats.icache_misses
    ∷ misses_line (codes "dcache: ") f.stats.dcache_accesses f.stats.dcache_misses
    ∷ []

-- a machine file of version 2 has two more
abbrev pub second_level_lines : Final → List Text
second_level_lines f =
    if f.stats.version == 2
    then misses_line (codes "l2: ") f.stats.l2_accesses f.stats.l2_misses ∷ count_line (codes "writebacks: ") f.stats.writebacks ∷ []
    else []

abbrev pub state_lines : Final → List Text
state_lines f =
    line (codes "output: ") (decimal f.stats.output ++ codes " bytes")
    ∷ line (codes "pc: ") (hex 8 f.pc)
    ∷ register_lines f.regs ++ csr_lines f

-- the report of a run under a machine file
unfoldable pub report_lines : Final → List Text
report_lines f =
    line (codes "status: ") (status_text f.end)
    ∷ count_line (codes "cycles: ") f.stats.cycles
    ∷ retired_lines f ++ pipeline_lines f ++ first_level_lines f ++ second_level_lines f ++ state_lines f

-- the report of a run without one: all lines that speak of cycles are left out
unfoldable pub func_lines : Final → List Text
func_lines f = line (codes "status: ") (status_text f.end) ∷ retired_lines f ++ state_lines f

abbrev pub joined : List Text → Text
joined [] = []
joined (text ∷ texts) = text ++ joined texts

abbrev pub report_text : Final → Text
report_text f = joined (report_lines f)

abbrev pub func_report_text : Final → Text
func_report_text f = joined (func_lines f)

-- the output, with a line feed behind it where it isn't empty and doesn't end in one
abbrev pub ends_open : List ℕ → Bool
ends_open [] = false
ends_open (byte ∷ []) = if byte == 10 then false else true
ends_open (byte ∷ next ∷ rest) = ends_open (next ∷ rest)

abbrev pub closed_output : List ℕ → Text
closed_output output = if ends_open output then output ++ line_feed else output

-- what is written of the machine after so many cycles
unfoldable pub text : Setup → ℕ → Text
text s c = closed_output (mono s c).arch.output ++ report_text (final s c)
