-- The control and status registers of one hart with machine mode alone, as CSR instructions see them
-- (RISC-V privileged manual, section 2.1 on addresses and sections 3.1 and 3.7 on the registers;
-- unprivileged manual, chapter "Zicsr" on the instructions and chapter "Counters" on cycle, time and instret).
use Rattle.std.specs.Prelude.{◌≡◌, ℕ, ◌+◌, ◌-◌, ◌*◌, ◌/◌, ◌%◌, ◌^◌, Bool, true, false, not, ◌&&◌, ◌||◌, ◌==◌, nat_le, if◌then◌else◌, List, [], ◌∷◌, Option, Some, None, is_some, bit_and, bit_or}
use Rattle.std.specs.Int.{bit_at}
use Rattle.rv_decode.specs.declared.insn.Insn.{Insn}
use Rattle.rv_decode.specs.declared.insn.Insn.TheVariants.{Csr}
use Rattle.machine_csr.specs.declared.csrs.Csrs.{Csrs}
use Rattle.machine_csr.specs.declared.csrs.CsrWrite.{CsrWrite}
use Rattle.machine_csr.specs.declared.csrs.CsrWrite.TheVariants.{Nothing, Put}

-- the registers at the start
abbrev pub opening_csrs : Csrs
opening_csrs = record { mie = false; mpie = false; mtie = false; mtvec = 0; mscratch = 0; mepc = 0; mcause = 0; mtval = 0; retired = 0 }

-- what a register shows: something of the registers alone, or of the time and mtimecmp
pub data Shown : Type 0 where
  state : (Csrs → ℕ) → Shown
  clock : (ℕ → ℕ → ℕ) → Shown

-- one row of the table: an address, what a read there gives, and the registers after a write of a value there
pub record Row : Type 0 where
  pub address : ℕ
  pub shows : Shown
  pub keeps : Csrs → ℕ → Csrs

abbrev pub row : ℕ → Shown → (Csrs → ℕ → Csrs) → Row
row address shows keeps = record { address = address; shows = shows; keeps = keeps }

-- a truth value in bit k of a word that is 0 elsewhere
abbrev pub flag : ℕ → Bool → ℕ
flag k b = if b then 2 ^ k else 0

abbrev pub is_bit_set : ℕ → ℕ → Bool
is_bit_set word k = bit_at word k == 1

-- the two halves of a number of 64 bits
abbrev pub low_half : ℕ → ℕ
low_half n = n % 2 ^ 32

abbrev pub high_half : ℕ → ℕ
high_half n = n / 2 ^ 32

-- a register that always shows 0, and a write that changes nothing
abbrev pub zeros : Shown
zeros = state (λ s. 0)

abbrev pub nothing : Csrs → ℕ → Csrs
nothing csrs value = csrs

-- mstatus: MIE in bit 3, MPIE in bit 7, and MPP (bits 12 and 11) always 3, as there is no lower mode
abbrev pub mstatus_of : Csrs → ℕ
mstatus_of csrs = 3 * 2 ^ 11 + flag 7 csrs.mpie + flag 3 csrs.mie

abbrev pub mstatus : Shown
mstatus = state mstatus_of

-- the register mie: MTIE in bit 7
abbrev pub mie_of : Csrs → ℕ
mie_of csrs = flag 7 csrs.mtie

abbrev pub put_mstatus : Csrs → ℕ → Csrs
put_mstatus csrs value = record csrs { mie = is_bit_set value 3; mpie = is_bit_set value 7 }

-- every register; an address that has no row is illegal
abbrev pub rows : List Row
rows =
    row 0x300 mstatus put_mstatus ∷  -- mstatus
    row 0x301 zeros nothing ∷  -- misa
    row 0x304 (state mie_of) (λ s v. record s { mtie = is_bit_set v 7 }) ∷  -- mie
    row 0x305 (state (λ s. s.mtvec)) (λ s v. record s { mtvec = v / 4 * 4 + v % 2 }) ∷  -- mtvec, without its bit 1
    row 0x310 zeros nothing ∷  -- mstatush
    row 0x320 zeros nothing ∷  -- mcountinhibit
    row 0x340 (state (λ s. s.mscratch)) (λ s v. record s { mscratch = v }) ∷  -- mscratch
    row 0x341 (state (λ s. s.mepc)) (λ s v. record s { mepc = v / 4 * 4 }) ∷  -- mepc, a multiple of 4
    row 0x342 (state (λ s. s.mcause)) (λ s v. record s { mcause = v }) ∷  -- mcause
    row 0x343 (state (λ s. s.mtval)) (λ s v. record s { mtval = v }) ∷  -- mtval
    row 0x344 (clock (λ t c. flag 7 (nat_le c t))) nothing ∷  -- mip: MTIP where the time is at least mtimecmp
    row 0x3A0 zeros nothing ∷  -- pmpcfg0
    row 0x3B0 zeros nothing ∷  -- pmpaddr0
    row 0xB00 (clock (λ t c. low_half t)) nothing ∷  -- mcycle
    row 0xB80 (clock (λ t c. high_half t)) nothing ∷  -- mcycleh
    row 0xB02 (state (λ s. low_half s.retired)) nothing ∷  -- minstret
    row 0xB82 (state (λ s. high_half s.retired)) nothing ∷  -- minstreth
    row 0xC00 (clock (λ t c. low_half t)) nothing ∷  -- cycle
    row 0xC80 (clock (λ t c. high_half t)) nothing ∷  -- cycleh
    row 0xC01 (clock (λ t c. low_half t)) nothing ∷  -- time
    row 0xC81 (clock (λ t c. high_half t)) nothing ∷  -- timeh
    row 0xC02 (state (λ s. low_half s.retired)) nothing ∷  -- instret
    row 0xC82 (state (λ s. high_half s.retired)) nothing ∷  -- instreth
    row 0xF11 zeros nothing ∷  -- mvendorid
    row 0xF12 zeros nothing ∷  -- marchid
    row 0xF13 zeros nothing ∷  -- mimpid
    row 0xF14 zeros nothing ∷  -- mhartid
    row 0xF15 zeros nothing ∷ []  -- mconfigptr

-- the row of an address
abbrev pub row_in : List Row → ℕ → Option Row
row_in [] csr = None
row_in (r ∷ rs) csr = if r.address == csr then Some r else row_in rs csr

unfoldable pub row_at : ℕ → Option Row
row_at csr = row_in rows csr

-- what a register shows at a time, and whether that is of the time
abbrev pub shown : Shown → Csrs → ℕ → ℕ → ℕ
shown (state f) csrs time cmp = f csrs
shown (clock f) csrs time cmp = f time cmp

abbrev pub is_clock : Shown → Bool
is_clock (state f) = false
is_clock (clock f) = true

abbrev pub read_by : Option Row → Csrs → ℕ → ℕ → ℕ
read_by None csrs time cmp = 0
read_by (Some r) csrs time cmp = shown r.shows csrs time cmp

abbrev pub shows_time : Option Row → Bool
shows_time None = false
shows_time (Some r) = is_clock r.shows

abbrev pub kept_by : Option Row → Csrs → ℕ → Csrs
kept_by None csrs value = csrs
kept_by (Some r) csrs value = r.keeps csrs value

-- an address whose bits 11 and 10 are both 1 is read-only
abbrev pub is_read_only : ℕ → Bool
is_read_only csr = csr / 2 ^ 10 % 4 == 3

-- the forms by funct3: CSRRW and CSRRWI swap, CSRRS and CSRRSI set bits, CSRRC and CSRRCI clear bits
abbrev pub is_swap : ℕ → Bool
is_swap kind = kind == 1 || kind == 5

abbrev pub is_set : ℕ → Bool
is_set kind = kind == 2 || kind == 6

abbrev pub is_clear : ℕ → Bool
is_clear kind = kind == 3 || kind == 7

-- the operand is the value of rs1, and in the immediate forms the field rs1 itself
abbrev pub operand_of : ℕ → ℕ → ℕ → ℕ
operand_of kind rs1 a = if nat_le 5 kind then rs1 else a

-- what is written, of the value before and the operand
abbrev pub combined : ℕ → ℕ → ℕ → ℕ
combined kind old operand =
    if is_swap kind then operand else if is_set kind then bit_or old operand else bit_and old (2 ^ 32 - 1 - operand)

-- a swap with rd = x0 doesn't read; setting or clearing by x0 or an immediate 0 doesn't write
abbrev pub does_read : ℕ → ℕ → Bool
does_read kind rd = not (is_swap kind && rd == 0)

abbrev pub does_write : ℕ → ℕ → Bool
does_write kind rs1 = is_swap kind || not (rs1 == 0)

-- one of the six forms, and no write of a read-only address
abbrev pub is_allowed : ℕ → ℕ → ℕ → Bool
is_allowed kind rs1 csr =
    (is_swap kind || is_set kind || is_clear kind) && not (does_write kind rs1 && is_read_only csr)

-- a CSR instruction is legal where it is allowed and its address has a row
abbrev pub is_legal : Insn → Bool
is_legal (Csr kind rd rs1 csr) = is_allowed kind rs1 csr && is_some (row_at csr)
is_legal insn = false

-- the value that goes to rd, which is 0 without a read, and the write
abbrev pub value_read : ℕ → ℕ → ℕ → ℕ
value_read kind rd old = if does_read kind rd then old else 0

abbrev pub write_made : ℕ → ℕ → ℕ → ℕ → ℕ → CsrWrite
write_made kind rs1 csr old a =
    if does_write kind rs1 then Put csr (combined kind old (operand_of kind rs1 a)) else Nothing

abbrev pub accessed : Csrs → Insn → ℕ → ℕ → ℕ → ℕ × CsrWrite
accessed csrs (Csr kind rd rs1 csr) a time cmp =
    let old = read_by (row_at csr) csrs time cmp in (value_read kind rd old, write_made kind rs1 csr old a)
accessed csrs insn a time cmp = (0, Nothing)

-- what a CSR instruction reads and writes, of the value of rs1, the time and mtimecmp; none where it is illegal
unfoldable pub csr_access : Csrs → Insn → ℕ → ℕ → ℕ → Option (ℕ × CsrWrite)
csr_access csrs insn a time cmp = if is_legal insn then Some (accessed csrs insn a time cmp) else None

-- a legal CSR instruction that reads the time
unfoldable pub reads_time_of : Insn → Bool
reads_time_of (Csr kind rd rs1 csr) = is_allowed kind rs1 csr && does_read kind rd && shows_time (row_at csr)
reads_time_of insn = false

-- an instruction whose access is the same at each time, whatever mtimecmp is
abbrev pub IsTimeless : Insn → Type 0
IsTimeless insn =
    (csrs : Csrs) (a time cmp later cmp' : ℕ) → csr_access csrs insn a time cmp ≡ csr_access csrs insn a later cmp'

-- the registers once a write was made; at an address that has no row it changes nothing
unfoldable pub csr_written : CsrWrite → Csrs → Csrs
csr_written Nothing csrs = csrs
csr_written (Put csr value) csrs = kept_by (row_at csr) csrs value
