-- What an instruction changes once its result is known: its register, RAM, the devices, the output, the CSRs
-- (RISC-V unprivileged manual, chapter 2; privileged manual, section 3.1, and section 3.3.2 for MRET).
use Rattle.std.specs.Prelude.{ℕ, ◌+◌, ◌&&◌, if◌then◌else◌, Bool, is_none, Option, Some, None, unwrap_or, List, [], ◌∷◌, ◌++◌}
use Rattle.fsim_base.specs.Memory.{put_bytes}
use Rattle.fsim_base.specs.Width.{width_bytes}
use Rattle.fsim_base.specs.Cause.{cause_number}
use Rattle.fsim_base.specs.declared.access.Access.{Access}
use Rattle.fsim_base.specs.declared.access.Access.TheVariants as access
use Rattle.fsim_base.specs.declared.access.Spot.TheVariants.{Ram, Device}
use Rattle.fsim_base.specs.declared.cause.Cause.{Cause}
use Rattle.rv_decode.specs.declared.insn.Insn.{Insn}
use Rattle.rv_decode.specs.Class.{sources_of}
use Rattle.machine_csr.specs.declared.csrs.Csrs.{Csrs}
use Rattle.machine_csr.specs.declared.csrs.CsrWrite.{CsrWrite}
use Rattle.machine_csr.specs.Csr.{csr_access, csr_written}
use Rattle.machine_csr.specs.Trap.{trap_left}
use Rattle.device_bus.specs.declared.place.Place.{Place}
use Rattle.device_bus.specs.declared.undo.Note.{Note}
use Rattle.device_bus.specs.declared.undo.Note.TheVariants as note
use Rattle.device_bus.specs.Device.{DeviceAccess, loading, storing}
use Rattle.device_bus.specs.Bus.{Devices, find_of, kind_at, answer_at, devices_after}
use Rattle.mono_model.specs.Arch.{Arch, register_value, with_register, compare_of, trapped}
use Rattle.mono_model.specs.Found.{Found, refused, unknown, known, destination_in, is_fence_i, is_csr_insn, is_mret_insn}
use Rattle.mono_model.specs.Result.{Result}

-- RAM with a store made
abbrev pub with_store : Access → ℕ → (ℕ → ℕ) → (ℕ → ℕ)
with_store (access.Store addr width Ram) value ram = put_bytes (width_bytes width) addr value ram
with_store access value ram = ram

-- the devices after an access of one of them
abbrev pub device_accessed : Option Place → (ℕ → DeviceAccess) → Devices → Devices
device_accessed None at devices = devices
device_accessed (Some place) at devices = devices_after devices (kind_at place.device) (at place.off)

-- the devices with an access made; the time changes none of them
abbrev pub with_access : Access → ℕ → Devices → Devices
with_access (access.Load addr width Device) value devices = device_accessed (find_of addr width) (λ off. loading off width 0) devices
with_access (access.Store addr width Device) value devices = device_accessed (find_of addr width) (λ off. storing off width value) devices
with_access access value devices = devices

-- what a store does outside its device
abbrev pub device_note : Option Place → (ℕ → DeviceAccess) → Devices → Note
device_note None at devices = note.Nothing
device_note (Some place) at devices = (answer_at devices (kind_at place.device) (at place.off)).note

abbrev pub access_note : Access → ℕ → Devices → Note
access_note (access.Store addr width Device) value devices = device_note (find_of addr width) (λ off. storing off width value) devices
access_note access value devices = note.Nothing

-- a byte for the output, or the end of the run; nothing where there is a cause
abbrev pub note_of : Result → Arch → Note
note_of r a = if is_none r.cause then access_note r.access r.value a.devices else note.Nothing

-- the output with a sent byte at its end
abbrev pub with_note : Note → List ℕ → List ℕ
with_note note.Nothing output = output
with_note (note.Out byte) output = output ++ byte ∷ []
with_note (note.End halt) output = output

-- what a CSR instruction writes, at the time that it was given
abbrev pub csr_change : Option (ℕ × CsrWrite) → Csrs → Csrs
csr_change None csrs = csrs
csr_change (Some access) csrs = csr_written access.1 csrs

abbrev pub insn_csrs : Insn → Option ℕ → Arch → Csrs
insn_csrs insn time a =
    if is_csr_insn insn
    then csr_change (csr_access a.csrs insn (register_value a.regs (sources_of insn).0) (unwrap_or time 0) (compare_of a.devices)) a.csrs
    else (if is_mret_insn insn then trap_left a.csrs else a.csrs)

abbrev pub changed_csrs : Found → Option ℕ → Arch → Csrs
changed_csrs (refused cause) time a = a.csrs
changed_csrs (unknown word) time a = a.csrs
changed_csrs (known word insn) time a = insn_csrs insn time a

-- one more instruction retired
abbrev pub counted : Csrs → Csrs
counted csrs = record csrs { retired = csrs.retired + 1 }

-- an instruction without a cause retires
unfoldable pub retired : Found → Result → Option ℕ → Arch → Arch
retired found r time a = record {
  pc = r.next;
  regs = with_register (destination_in found) r.value a.regs;
  ram = with_store r.access r.value a.ram;
  text = a.text;
  csrs = counted (changed_csrs found time a);
  devices = with_access r.access r.value a.devices;
  output = with_note (note_of r a) a.output;
}

abbrev pub effect_by : Option Cause → Found → Result → Option ℕ → ℕ → Arch → Arch
effect_by None found r time addr a = retired found r time a
effect_by (Some cause) found r time addr a = trapped (cause_number cause) r.mtval addr a

-- the state behind an instruction at an address, with its time: it retires, or its trap is taken
unfoldable pub effect : Found → Result → Option ℕ → ℕ → Arch → Arch
effect found r time addr a = effect_by r.cause found r time addr a

-- a FENCE.I that retired
abbrev pub is_fence_result : Found → Result → Bool
is_fence_result found r = is_fence_i found && is_none r.cause
