-- Lines of the report by themselves, and its parts.
use Rattle.std.specs.Prelude.{ℕ, List, [], ◌∷◌, ◌++◌, codes, decimal}
use Rattle.machine_csr.specs.Csr.{mstatus_of, mie_of}
use Rattle.machine_csr.specs.declared.csrs.Csrs.{Csrs}
use Rattle.mono_model.specs.declared.final_state.Final.{Final}
use Rattle.mono_model.specs.Report.{line, status_text, count_line, misses_line, retired_lines}
use Rattle.mono_model.specs.Report.{second_level_lines, register_lines, joined, hex}

abbrev pub output_line : ℕ → List ℕ
output_line bytes = line (codes "output: ") (decimal bytes ++ codes " bytes")

abbrev pub pc_line : ℕ → List ℕ
pc_line pc = line (codes "pc: ") (hex 8 pc)

-- the CSRs that say whether and where interrupts go
abbrev pub interrupt_csrs_line : Csrs → List ℕ
interrupt_csrs_line csrs =
    line (codes "mstatus=" ++ hex 8 (mstatus_of csrs) ++ codes " mie=" ++ hex 8 (mie_of csrs))
    (codes " mtvec=" ++ hex 8 csrs.mtvec ++ codes " mscratch=" ++ hex 8 csrs.mscratch)

-- the CSRs of the last trap, and mtimecmp
abbrev pub trap_csrs_line : Csrs → ℕ → List ℕ
trap_csrs_line csrs cmp =
    line (codes "mepc=" ++ hex 8 csrs.mepc ++ codes " mcause=" ++ hex 8 csrs.mcause)
    (codes " mtval=" ++ hex 8 csrs.mtval ++ codes " mtimecmp=" ++ hex 16 cmp)

-- the parts of the report of a run without a machine file, in order: counts and places, registers,
-- CSRs
unfoldable pub counts_text : Final → List ℕ
counts_text f =
    joined (line (codes "status: ") (status_text f.end) ∷ retired_lines f
    ++ output_line f.stats.output ∷ pc_line f.pc ∷ [])

unfoldable pub registers_text : List ℕ → List ℕ
registers_text regs = joined (register_lines regs)

unfoldable pub csrs_text : Csrs → ℕ → List ℕ
csrs_text csrs cmp = joined (interrupt_csrs_line csrs ∷ trap_csrs_line csrs cmp ∷ [])

abbrev pub values_text : List ℕ → Csrs → ℕ → List ℕ
values_text regs csrs cmp = registers_text regs ++ csrs_text csrs cmp

-- the parts of the report of a run under a machine file, in order: progress, predictions and
-- caches, the second level, output and place, and then registers and CSRs as above
unfoldable pub progress_text : Final → List ℕ
progress_text f =
    joined (line (codes "status: ") (status_text f.end)
    ∷ count_line (codes "cycles: ") f.stats.cycles
    ∷ count_line (codes "instructions: ") f.stats.instructions
    ∷ count_line (codes "exceptions: ") f.stats.exceptions
    ∷ count_line (codes "interrupts: ") f.stats.interrupts
    ∷ count_line (codes "replays: ") f.stats.replays
    ∷ count_line (codes "fetched: ") f.stats.fetched
    ∷ count_line (codes "squashed: ") f.stats.squashed
    ∷ [])

unfoldable pub costs_text : Final → List ℕ
costs_text f =
    joined (count_line (codes "branches: ") f.stats.branches
    ∷ count_line (codes "mispredicted: ") f.stats.mispredicted
    ∷ misses_line (codes "icache: ") f.stats.icache_accesses f.stats.icache_misses
    ∷ misses_line (codes "dcache: ") f.stats.dcache_accesses f.stats.dcache_misses
    ∷ [])

unfoldable pub second_level_text : Final → List ℕ
second_level_text f = joined (second_level_lines f)

unfoldable pub place_text : Final → List ℕ
place_text f = joined (output_line f.stats.output ∷ pc_line f.pc ∷ [])
