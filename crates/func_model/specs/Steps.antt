-- What an instruction does to the state, by the parts in which the code does it.
use Rattle.std.specs.Prelude.{◌≡◌, ℕ, ◌%◌, ◌&&◌, Bool, true, false, not, is_none, if◌then◌else◌, Option, Some, None, List, nat_le, length}
use Rattle.fsim_base.specs.declared.access.Access.{Access}
use Rattle.fsim_base.specs.declared.access.Access.TheVariants as access
use Rattle.fsim_base.specs.declared.access.Width.{Width}
use Rattle.fsim_base.specs.declared.access.Spot.{Spot}
use Rattle.fsim_base.specs.declared.access.Spot.TheVariants.{Ram}
use Rattle.fsim_base.specs.declared.access.RamRange.{RamRange}
use Rattle.fsim_base.specs.Cause.{cause_number}
use Rattle.fsim_base.specs.Width.{width_bytes}
use Rattle.fsim_base.specs.declared.cause.Cause.{Cause}
use Rattle.fsim_base.specs.Number.{wrap_sum}
use Rattle.rv_decode.specs.declared.insn.Insn.{Insn}
use Rattle.rv_decode.specs.declared.insn.Insn.TheVariants as insn
use Rattle.rv_decode.specs.Class.{dest_of, sources_of}
use Rattle.machine_csr.specs.declared.csrs.Csrs.{Csrs}
use Rattle.machine_csr.specs.declared.csrs.CsrWrite.{CsrWrite}
use Rattle.machine_csr.specs.Csr.{csr_written}
use Rattle.machine_csr.specs.Trap.{trap_left, return_address}
use Rattle.rv_exec.specs.declared.outcome.Outcome.{Outcome}
use Rattle.rv_exec.specs.declared.outcome.Reach.{Reach}
use Rattle.rv_exec.specs.declared.outcome.Reach.TheVariants as reach
use Rattle.rv_exec.specs.Eval.{eval_of}
use Rattle.rv_exec.specs.Load.{loaded_value}
use Rattle.device_bus.specs.declared.undo.Note.{Note}
use Rattle.device_bus.specs.declared.undo.Note.TheVariants as note
use Rattle.device_bus.specs.Bus.{Devices}
use Rattle.undo_journal.specs.declared.past.Change.{Change}
use Rattle.undo_journal.specs.declared.past.Change.TheVariants.{Nothing, Memory, Trap}
use Rattle.func_model.specs.Undo.{trap_before}
use Rattle.mono_model.specs.Arch.{Arch, with_register, register_value, trapped}
use Rattle.mono_model.specs.Found.{Found, first_source, second_source}
use Rattle.mono_model.specs.Effect.{counted, with_store, with_access, with_note, access_note, note_of, effect}
use Rattle.mono_model.specs.Result.{spot_of, raw_at, can_store, Result, executed, csr_value}
use Rattle.mono_model.specs.Sequence.{seen_in, byte_in}
use Rattle.func_model.specs.declared.performed.Performed.{Performed}
use Rattle.func_model.specs.declared.performed.Stepped.{Stepped}
use Rattle.func_model.specs.declared.performed.Stepped.TheVariants.{On, Full, Ended}

-- an instruction that writes a register, if any, and goes on
abbrev pub finished : Option ℕ → ℕ → ℕ → Arch → Arch
finished destination value next a = record a { pc = next; regs = with_register destination value a.regs; csrs = counted a.csrs }

-- a load whose bytes are these, if it can be made
abbrev pub load_done : RamRange → Option ℕ → ℕ → ℕ → Width → Bool → Option ℕ → Arch → Arch
load_done range destination next addr width signed None a = trapped 5 addr a.pc a
load_done range destination next addr width signed (Some raw) a =
    record (finished destination (loaded_value width signed raw) next a) { devices = with_access (access.Load addr width (spot_of range addr width)) 0 a.devices }

-- an aligned load at a time
abbrev pub load_made : RamRange → Option ℕ → ℕ → ℕ → Width → Bool → Option ℕ → Arch → Arch
load_made range destination next addr width signed time a =
    load_done range destination next addr width signed (raw_at (seen_in time a) addr width (spot_of range addr width)) a

-- the devices after a read that gave these bytes, if any
abbrev pub read_devices : Option ℕ → RamRange → ℕ → Width → Devices → Devices
read_devices None range addr width devices = devices
read_devices (Some raw) range addr width devices = with_access (access.Load addr width (spot_of range addr width)) 0 devices

-- how an instruction with this note leaves the run, where the output has so much room
abbrev pub is_full : ℕ → List ℕ → Note → Bool
is_full limit output note.Nothing = false
is_full limit output (note.Out byte) = nat_le limit (length output)
is_full limit output (note.End halt) = false

abbrev pub stepped_by : ℕ → List ℕ → Note → Stepped
stepped_by limit output note.Nothing = On
stepped_by limit output (note.Out byte) = if nat_le limit (length output) then Full else On
stepped_by limit output (note.End halt) = Ended halt

-- the state behind a store with this note, unless the output has no room for it
abbrev pub concluded : ℕ → Note → ℕ → Arch → Arch
concluded limit what next a =
    if is_full limit a.output what then a else record (finished None 0 next a) { output = with_note what a.output }

-- an aligned store that can be made
abbrev pub store_done : ℕ → ℕ → ℕ → Width → ℕ → Spot → Arch → Arch
store_done limit next addr width value spot a =
    if is_full limit a.output (access_note (access.Store addr width spot) value a.devices) then a
    else record (finished None 0 next a) {
      ram = with_store (access.Store addr width spot) value a.ram;
      devices = with_access (access.Store addr width spot) value a.devices;
      output = with_note (access_note (access.Store addr width spot) value a.devices) a.output;
    }

-- an aligned store, and how it leaves the run
abbrev pub store_made : RamRange → ℕ → ℕ → ℕ → Width → ℕ → Arch → Arch
store_made range limit next addr width value a =
    if can_store addr width (spot_of range addr width) then store_done limit next addr width value (spot_of range addr width) a else trapped 7 addr a.pc a

-- what an instruction does whose outcome this is, where it is none of CSRs or MRET
abbrev pub reached_made : RamRange → ℕ → Option ℕ → Outcome → Option ℕ → Arch → Reach → Arch
reached_made range limit destination o time a reach.Nothing = finished destination o.value o.next a
reached_made range limit destination o time a (reach.Load addr width signed) = load_made range destination o.next addr width signed time a
reached_made range limit destination o time a (reach.Store addr width value) = store_made range limit o.next addr width value a

abbrev pub caused_made : RamRange → ℕ → Option ℕ → Outcome → Option ℕ → Arch → Option (Cause × ℕ) → Arch
caused_made range limit destination o time a None = reached_made range limit destination o time a o.reach
caused_made range limit destination o time a (Some why) = trapped (cause_number why.0) why.1 a.pc a

abbrev pub outcome_made : RamRange → ℕ → Option ℕ → Outcome → Option ℕ → Arch → Arch
outcome_made range limit destination o time a = caused_made range limit destination o time a o.cause

-- what is told of an instruction that comes to this, where the output has so much room
pub record Told (limit : ℕ) (r : Result) (a : Arch) (done : Performed) : Type 0 where
  pub stepped : done.stepped ≡ stepped_by limit a.output (note_of r a)
  pub sent : done.sent ≡ byte_in (note_of r a)
  pub access : done.access ≡ r.access
  pub cause : done.cause ≡ r.cause

-- an access without a cause is aligned
abbrev pub IsAlignedReach : Reach → Type 0
IsAlignedReach reach.Nothing = Unit {0}
IsAlignedReach (reach.Load addr width signed) = addr % width_bytes width ≡ 0
IsAlignedReach (reach.Store addr width value) = addr % width_bytes width ≡ 0

abbrev pub AlignedBy : Option (Cause × ℕ) → Reach → Type 0
AlignedBy None what = IsAlignedReach what
AlignedBy (Some why) what = Unit {0}

-- a CSR instruction, by what it reads and writes
abbrev pub csr_made : ℕ → Insn → Option ℕ → Option (ℕ × CsrWrite) → Arch → Arch
csr_made word insn time None a = trapped 2 word a.pc a
csr_made word insn time (Some made) a =
    record a {
      pc = wrap_sum a.pc 4;
      regs = with_register (dest_of insn) (csr_value insn time made.0) a.regs;
      csrs = counted (csr_written made.1 a.csrs);
    }

-- MRET
abbrev pub mret_made : Arch → Arch
mret_made a = record a { pc = return_address a.csrs; csrs = counted (trap_left a.csrs) }

-- what stands at the next address comes to this, at a time
abbrev pub result_of : RamRange → Found → Option ℕ → Arch → Result
result_of range found time a =
    executed range found a.pc (register_value a.regs (first_source found)) (register_value a.regs (second_source found)) (seen_in time a)

-- the state behind it, unless the output has no room for its byte
abbrev pub behind : ℕ → Found → Result → Option ℕ → Arch → Arch
behind limit found r time a = if is_full limit a.output (note_of r a) then a else effect found r time a.pc a

-- an instruction that may reach memory, or is about control and status registers
abbrev pub reaches_out : Insn → Bool
reaches_out (insn.Load kind rd rs1 imm) = true
reaches_out (insn.Store kind rs1 rs2 imm) = true
reaches_out insn.Mret = true
reaches_out (insn.Csr kind rd rs1 csr) = true
reaches_out other = false

-- a load
abbrev pub is_load : Insn → Bool
is_load (insn.Load kind rd rs1 imm) = true
is_load other = false

-- a store
abbrev pub is_store : Insn → Bool
is_store (insn.Store kind rs1 rs2 imm) = true
is_store other = false

-- the outcome of an instruction at an address, with the values of the registers
abbrev pub outcome_at : Insn → ℕ → (ℕ → ℕ) → Outcome
outcome_at i addr regs = eval_of i addr (register_value regs (sources_of i).0) (register_value regs (sources_of i).1)

-- the same where the instruction changes at most a register and the next address, and doesn't trap
abbrev pub plain_outcome : Insn → ℕ → (ℕ → ℕ) → Option Outcome
plain_outcome i addr regs =
    if not (reaches_out i) && is_none (outcome_at i addr regs).cause then Some (outcome_at i addr regs) else None

-- what is told of an instruction that reached neither memory nor a device
abbrev pub plain_with : Change → Performed
plain_with change = record { stepped = On; sent = None; access = access.Nothing; cause = None; change = change }

-- what is told of a load of RAM
abbrev pub load_with : Access → Performed
load_with made = record { stepped = On; sent = None; access = made; cause = None; change = Nothing }

-- what is told of a store to RAM that replaces a value
abbrev pub store_with : ℕ → Width → ℕ → Performed
store_with addr width old = record { stepped = On; sent = None; access = access.Store addr width Ram; cause = None; change = Memory addr width old }

-- what is told of a trap, with the access that was attempted, and the control and status registers before it
abbrev pub failed_with : Access → Cause → Csrs → Performed
failed_with tried cause before = record { stepped = On; sent = None; access = tried; cause = Some cause; change = Trap (trap_before before) }
