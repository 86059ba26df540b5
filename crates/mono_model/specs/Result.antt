-- What an instruction computes of its operands and of what it sees
-- (RISC-V unprivileged manual, chapter 2, M and Zicsr; privileged manual, sections 3.1, 3.2.1 and 3.3).
use Rattle.std.specs.Prelude.{ℕ, ◌+◌, ◌==◌, ◌&&◌, ◌||◌, not, if◌then◌else◌, Bool, true, false, is_none, is_some, Option, Some, None, unwrap_or}
use Rattle.fsim_base.specs.Number.{wrap_sum}
use Rattle.fsim_base.specs.Memory.{from_bytes}
use Rattle.fsim_base.specs.Width.{width_bytes, is_aligned}
use Rattle.fsim_base.specs.Range.{is_inside}
use Rattle.fsim_base.specs.declared.access.Access.{Access}
use Rattle.fsim_base.specs.declared.access.Access.TheVariants as access
use Rattle.fsim_base.specs.declared.access.Spot.{Spot}
use Rattle.fsim_base.specs.declared.access.Spot.TheVariants.{Ram, Device, Nowhere}
use Rattle.fsim_base.specs.declared.access.Width.{Width}
use Rattle.fsim_base.specs.declared.access.Width.TheVariants.{Byte, Half, Word}
use Rattle.fsim_base.specs.declared.access.RamRange.{RamRange}
use Rattle.fsim_base.specs.declared.cause.Cause.{Cause}
use Rattle.fsim_base.specs.declared.cause.Cause.TheVariants.{IllegalInstruction, LoadAccess, StoreAccess}
use Rattle.rv_decode.specs.declared.insn.Insn.{Insn}
use Rattle.rv_exec.specs.declared.outcome.Outcome.{Outcome}
use Rattle.rv_exec.specs.declared.outcome.Reach.{Reach}
use Rattle.rv_exec.specs.declared.outcome.Reach.TheVariants as reach
use Rattle.rv_exec.specs.Eval.{eval_of}
use Rattle.rv_exec.specs.Load.{loaded_value}
use Rattle.machine_csr.specs.declared.csrs.Csrs.{Csrs}
use Rattle.machine_csr.specs.declared.csrs.CsrWrite.{CsrWrite}
use Rattle.machine_csr.specs.Csr.{csr_access, reads_time_of}
use Rattle.machine_csr.specs.Trap.{return_address}
use Rattle.device_bus.specs.declared.place.Place.{Place}
use Rattle.device_bus.specs.declared.kind.DeviceKind.TheVariants.{Timer}
use Rattle.device_bus.specs.Device.{loading, time_low_offset, time_high_offset}
use Rattle.device_bus.specs.Bus.{Devices, range_of, find_of, kind_at, answer_at}
use Rattle.mono_model.specs.Arch.{compare_of}
use Rattle.mono_model.specs.Found.{Found, refused, unknown, known, is_csr_insn, is_mret_insn}

-- What an instruction sees beside its operands.
pub record Seen : Type 0 where
  -- RAM, from address to byte
  pub bytes : ℕ → ℕ
  pub csrs : Csrs
  pub devices : Devices
  -- the time that it was given, in cycles, if any was
  pub time : Option ℕ

-- What an instruction comes to.
pub record Result : Type 0 where
  -- what goes to its destination register, or is stored
  pub value : ℕ
  pub next : ℕ
  -- the load or store as it was attempted, also where it has a cause
  pub access : Access
  pub cause : Option Cause
  pub mtval : ℕ

-- a value, and on to an address
abbrev pub resulting : ℕ → ℕ → Access → Result
resulting value next made = record { value = value; next = next; access = made; cause = None; mtval = 0 }

-- a cause, with the access as it was attempted
abbrev pub failing_access : ℕ → Access → Cause → ℕ → Result
failing_access next tried cause mtval = record { value = 0; next = next; access = tried; cause = Some cause; mtval = mtval }

-- a cause before anything was done
abbrev pub failing : ℕ → Cause → ℕ → Result
failing addr cause mtval = failing_access (wrap_sum addr 4) access.Nothing cause mtval

-- An access can't be made where it is misaligned, where it is outside RAM and the devices, or where it is not accepted by the
-- device there.
abbrev pub is_misaligned : ℕ → Width → Bool
is_misaligned addr width = not (is_aligned addr width)

-- where the bytes of an access lie: those of a misaligned one nowhere
abbrev pub spot_of : RamRange → ℕ → Width → Spot
spot_of ram addr width =
    if is_misaligned addr width then Nowhere
    else (if is_inside ram addr (width_bytes width) then Ram
    else (if is_some (find_of addr width) then Device else Nowhere))

abbrev pub is_outside : Spot → Bool
is_outside Ram = false
is_outside Device = false
is_outside Nowhere = true

abbrev pub accepts_place : Option Place → Bool
accepts_place None = false
accepts_place (Some place) = place.accepted

abbrev pub is_accepted : ℕ → Width → Spot → Bool
is_accepted addr width Ram = true
is_accepted addr width Device = accepts_place (find_of addr width)
is_accepted addr width Nowhere = false

-- A load: its bytes as a number, and none where it is outside or not accepted
abbrev pub given_by : Seen → Width → Place → ℕ
given_by e width place = (answer_at e.devices (kind_at place.device) (loading place.off width (unwrap_or e.time 0))).value

abbrev pub given_by_place : Seen → Width → Option Place → Option ℕ
given_by_place e width None = None
given_by_place e width (Some place) = if place.accepted then Some (given_by e width place) else None

abbrev pub raw_at : Seen → ℕ → Width → Spot → Option ℕ
raw_at e addr width Ram = Some (from_bytes (width_bytes width) addr e.bytes)
raw_at e addr width Device = given_by_place e width (find_of addr width)
raw_at e addr width Nowhere = None

abbrev pub loaded_raw : ℕ → ℕ → Width → Bool → Spot → Option ℕ → Result
loaded_raw next addr width signed spot None = failing_access next (access.Load addr width spot) LoadAccess addr
loaded_raw next addr width signed spot (Some raw) = resulting (loaded_value width signed raw) next (access.Load addr width spot)

abbrev pub loaded_at : ℕ → ℕ → Width → Bool → Seen → Spot → Result
loaded_at next addr width signed e spot = loaded_raw next addr width signed spot (raw_at e addr width spot)

-- A store
abbrev pub can_store : ℕ → Width → Spot → Bool
can_store addr width spot = not (is_outside spot) && is_accepted addr width spot

abbrev pub stored_at : ℕ → ℕ → Width → ℕ → Spot → Result
stored_at next addr width value spot =
    if can_store addr width spot
    then resulting value next (access.Store addr width spot)
    else failing_access next (access.Store addr width spot) StoreAccess addr

-- the instructions that read the time: an aligned word load of the timer's time, and the CSR instructions that do
abbrev pub is_time_address : ℕ → Bool
is_time_address addr =
    addr == (range_of Timer).base + time_low_offset || addr == (range_of Timer).base + time_high_offset

abbrev pub is_time_load : Access → Bool
is_time_load access.Nothing = false
is_time_load (access.Load addr Byte spot) = false
is_time_load (access.Load addr Half spot) = false
is_time_load (access.Load addr Word spot) = is_time_address addr
is_time_load (access.Store addr width spot) = false

abbrev pub is_time_csr : Found → Bool
is_time_csr (refused cause) = false
is_time_csr (unknown word) = false
is_time_csr (known word insn) = reads_time_of insn

abbrev pub is_time_read : Found → Access → Bool
is_time_read found made = is_time_csr found || is_time_load made

-- A CSR instruction: without a time, one that reads it reads 0.
abbrev pub csr_value : Insn → Option ℕ → ℕ → ℕ
csr_value insn time value = if reads_time_of insn && is_none time then 0 else value

abbrev pub csr_result : ℕ → Insn → ℕ → Option ℕ → Option (ℕ × CsrWrite) → Result
csr_result word insn addr time None = failing addr IllegalInstruction word
csr_result word insn addr time (Some done) = resulting (csr_value insn time done.0) (wrap_sum addr 4) access.Nothing

abbrev pub csr_read : Seen → Insn → ℕ → Option (ℕ × CsrWrite)
csr_read e insn x = csr_access e.csrs insn x (unwrap_or e.time 0) (compare_of e.devices)

-- An outcome is a cause, among them that of a misaligned access; or a load, a store, or a value alone.
abbrev pub attempted : Reach → Access
attempted reach.Nothing = access.Nothing
attempted (reach.Load target width signed) = access.Load target width Nowhere
attempted (reach.Store target width value) = access.Store target width Nowhere

abbrev pub reached : RamRange → Seen → Outcome → Reach → Result
reached ram e o reach.Nothing = resulting o.value o.next access.Nothing
reached ram e o (reach.Load target width signed) = loaded_at o.next target width signed e (spot_of ram target width)
reached ram e o (reach.Store target width value) = stored_at o.next target width value (spot_of ram target width)

abbrev pub by_cause : RamRange → Seen → Outcome → Option (Cause × ℕ) → Result
by_cause ram e o None = reached ram e o o.reach
by_cause ram e o (Some why) = failing_access o.next (attempted o.reach) why.0 why.1

abbrev pub evaluated : RamRange → Seen → Outcome → Result
evaluated ram e o = by_cause ram e o o.cause

-- what stands at an address comes to this, with the values of its sources and what it sees
unfoldable pub executed : RamRange → Found → ℕ → ℕ → ℕ → Seen → Result
executed ram (refused cause) addr x y e = failing addr cause addr
executed ram (unknown word) addr x y e = failing addr IllegalInstruction word
executed ram (known word insn) addr x y e =
    if is_csr_insn insn then csr_result word insn addr e.time (csr_read e insn x)
    else (if is_mret_insn insn then resulting 0 (return_address e.csrs) access.Nothing
    else evaluated ram e (eval_of insn addr x y))
