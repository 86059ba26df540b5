-- The names of the control and status registers (RISC-V privileged manual, section 2.2 "CSR Listing").
use Rattle.std.specs.Prelude.{ℕ, ◌==◌, if◌then◌else◌, List, [], ◌∷◌, codes, Option, None, Some}
use Rattle.machine_csr.specs.Csr.{Row, rows}
use Rattle.disassembly.specs.Number.{Text}

-- in the order of their table
abbrev pub csr_names : List Text
csr_names =
    codes "mstatus" ∷ codes "misa" ∷ codes "mie" ∷ codes "mtvec" ∷ codes "mstatush" ∷ codes "mcountinhibit"
    ∷ codes "mscratch" ∷ codes "mepc" ∷ codes "mcause" ∷ codes "mtval" ∷ codes "mip"
    ∷ codes "pmpcfg0" ∷ codes "pmpaddr0"
    ∷ codes "mcycle" ∷ codes "mcycleh" ∷ codes "minstret" ∷ codes "minstreth"
    ∷ codes "cycle" ∷ codes "cycleh" ∷ codes "time" ∷ codes "timeh" ∷ codes "instret" ∷ codes "instreth"
    ∷ codes "mvendorid" ∷ codes "marchid" ∷ codes "mimpid" ∷ codes "mhartid" ∷ codes "mconfigptr" ∷ []

-- the name in the place of the row that has the address
abbrev pub name_in : List Row → List Text → ℕ → Option Text
name_in (row ∷ rows) (name ∷ names) csr = if row.address == csr then Some name else name_in rows names csr
name_in _ _ csr = None

unfoldable pub name_at : ℕ → Option Text
name_at csr = name_in rows csr_names csr
