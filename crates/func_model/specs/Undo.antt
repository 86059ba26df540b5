-- What takes a state back before an instruction.
use Rattle.std.specs.Prelude.{◌≡◌, ℕ, ◌-◌, ◌%◌, ◌<◌, Bool, true, false, if◌then◌else◌, List, [], ◌∷◌, length, take, is_some, Option, Some, None}
use Rattle.fsim_base.specs.declared.access.RamRange.{RamRange}
use Rattle.fsim_base.specs.Width.{width_bytes}
use Rattle.machine_csr.specs.declared.csrs.Csrs.{Csrs}
use Rattle.phys_mem.specs.Ram.{stored}
use Rattle.device_bus.specs.Undo.{NamesSlot}
use Rattle.device_bus.specs.Bus.{Devices, kind_at, devices_undone}
use Rattle.undo_journal.specs.declared.past.Past.{Past}
use Rattle.undo_journal.specs.declared.past.Change.{Change}
use Rattle.undo_journal.specs.declared.past.Change.TheVariants.{Nothing, Memory, Device, Trap, Csr}
use Rattle.undo_journal.specs.declared.past.OldTrap.{OldTrap}
use Rattle.undo_journal.specs.declared.past.OldCsr.{OldCsr}
use Rattle.undo_journal.specs.declared.past.OldCsr.TheVariants.{Flags, Mtvec, Mscratch, Mepc, Mcause, Mtval}
use Rattle.mono_model.specs.Arch.{Arch, with_register}
use Rattle.mono_model.specs.Found.{Found, destination_in}
use Rattle.fsim_base.specs.declared.instruction.Halt.{Halt}
use Rattle.func_model.specs.declared.performed.OldRegister.{OldRegister}
use Rattle.func_model.specs.declared.performed.Performed.{Performed}
use Rattle.func_model.specs.declared.performed.Stepped.{Stepped}
use Rattle.func_model.specs.declared.performed.Stepped.TheVariants.{On, Full, Ended}

-- the registers with one set back
abbrev pub registers_back : OldRegister → (ℕ → ℕ) → (ℕ → ℕ)
registers_back was regs = with_register (Some was.register) was.value regs

-- the register that an undo step names, with its value
abbrev pub register_in : Past → OldRegister
register_in past = record { register = past.register; value = past.value }

-- RAM with the bytes of a store put back
abbrev pub memory_back : RamRange → Change → (ℕ → ℕ) → (ℕ → ℕ)
memory_back range Nothing ram = ram
memory_back range (Memory addr width old) ram = stored range ram addr width old
memory_back range (Device device undo) ram = ram
memory_back range (Trap was) ram = ram
memory_back range (Csr was) ram = ram

-- one instruction fewer retired
abbrev pub uncounted : Csrs → Csrs
uncounted csrs = record csrs { retired = csrs.retired - 1 }

-- what a trap changes of the control and status registers, and the registers with that put back
abbrev pub trap_before : Csrs → OldTrap
trap_before csrs = record { mie = csrs.mie; mpie = csrs.mpie; mepc = csrs.mepc; mcause = csrs.mcause; mtval = csrs.mtval }

abbrev pub trap_back : OldTrap → Csrs → Csrs
trap_back was csrs = record csrs { mie = was.mie; mpie = was.mpie; mepc = was.mepc; mcause = was.mcause; mtval = was.mtval }

-- the flags, and the registers with one of them or the flags put back
abbrev pub flags_before : Csrs → OldCsr
flags_before csrs = Flags csrs.mie csrs.mpie csrs.mtie

abbrev pub csr_back : OldCsr → Csrs → Csrs
csr_back (Flags mie mpie mtie) csrs = record csrs { mie = mie; mpie = mpie; mtie = mtie }
csr_back (Mtvec old) csrs = record csrs { mtvec = old }
csr_back (Mscratch old) csrs = record csrs { mscratch = old }
csr_back (Mepc old) csrs = record csrs { mepc = old }
csr_back (Mcause old) csrs = record csrs { mcause = old }
csr_back (Mtval old) csrs = record csrs { mtval = old }

-- the control and status registers from before
abbrev pub csrs_back : Change → Csrs → Csrs
csrs_back Nothing csrs = uncounted csrs
csrs_back (Memory addr width old) csrs = uncounted csrs
csrs_back (Device device undo) csrs = uncounted csrs
csrs_back (Trap was) csrs = trap_back was csrs
csrs_back (Csr was) csrs = uncounted (csr_back was csrs)

-- a device was accessed
abbrev pub is_device : Change → Bool
is_device Nothing = false
is_device (Memory addr width old) = false
is_device (Device device undo) = true
is_device (Trap was) = false
is_device (Csr was) = false

-- the devices with an access to one of them taken back
abbrev pub devices_back : Change → Devices → Devices
devices_back Nothing devices = devices
devices_back (Memory addr width old) devices = devices
devices_back (Device device undo) devices = devices_undone devices (kind_at device) undo
devices_back (Trap was) devices = devices
devices_back (Csr was) devices = devices

-- the output without its last byte
abbrev pub shortened : List ℕ → List ℕ
shortened output = take (length output - 1) output

-- a state with what a change changed taken back
abbrev pub changed_back : RamRange → Change → Arch → Arch
changed_back range change a = record a {
  ram = memory_back range change a.ram;
  csrs = csrs_back change a.csrs;
  devices = devices_back change a.devices;
}

-- the state before an instruction, from the one behind it
unfoldable pub undone : RamRange → Past → Arch → Arch
undone range past a = record {
  pc = past.addr;
  regs = registers_back (register_in past) a.regs;
  ram = memory_back range past.change a.ram;
  text = a.text;
  csrs = csrs_back past.change a.csrs;
  devices = devices_back past.change a.devices;
  output = if past.out then shortened a.output else a.output;
}

-- the same before instructions, the oldest first, and the registers alone
abbrev pub all_undone : RamRange → List Past → Arch → Arch
all_undone range [] a = a
all_undone range (past ∷ later) a = undone range past (all_undone range later a)

abbrev pub all_registers_back : List Past → (ℕ → ℕ) → (ℕ → ℕ)
all_registers_back [] regs = regs
all_registers_back (past ∷ later) regs = registers_back (register_in past) (all_registers_back later regs)

-- what a change names exists: a store is aligned, and a device has the slot that is named
abbrev pub IsRestorableChange : Change → Type 0
IsRestorableChange Nothing = Unit {0}
IsRestorableChange (Memory addr width old) = addr % width_bytes width ≡ 0
IsRestorableChange (Device device undo) = (device < 3) × NamesSlot (kind_at device) undo
IsRestorableChange (Trap was) = Unit {0}
IsRestorableChange (Csr was) = Unit {0}

-- what an undo step names exists
pub record IsRestorable (past : Past) : Type 0 where
  pub register : past.register < 32
  pub change : IsRestorableChange past.change

-- an instruction was executed, unless the output had no room for its byte
abbrev pub is_executed : Stepped → Bool
is_executed On = true
is_executed Full = false
is_executed (Ended halt) = true

-- what an instruction did to memory, devices, and control and status registers is taken back
pub record TakesBack (range : RamRange) (done : Performed) (before after : Arch) : Type 0 where
  pub memory : memory_back range done.change after.ram ≡ before.ram
  pub devices : devices_back done.change after.devices ≡ before.devices
  pub csrs : is_executed done.stepped ≡ true → csrs_back done.change after.csrs ≡ before.csrs
  pub exists : IsRestorableChange done.change

-- a load changes nothing but a device
abbrev pub IsOfLoad : Change → Type 0
IsOfLoad Nothing = Unit {0}
IsOfLoad (Memory addr width old) = ⊥
IsOfLoad (Device device undo) = Unit {0}
IsOfLoad (Trap was) = ⊥
IsOfLoad (Csr was) = ⊥

-- a register with its value; x0 where there is none
abbrev pub register_before : Option ℕ → (ℕ → ℕ) → OldRegister
register_before None regs = record { register = 0; value = regs 0 }
register_before (Some register) regs = record { register = register; value = regs register }

-- what takes an instruction back that was found at the address of a state, and did this
abbrev pub past_of : ℕ → Found → Arch → Performed → Past
past_of number found a done = record {
  number = number;
  addr = a.pc;
  value = (register_before (destination_in found) a.regs).value;
  register = (register_before (destination_in found) a.regs).register;
  change = done.change;
  out = is_some done.sent;
}

-- how the program ended the run, where it did
abbrev pub ended_in : Stepped → Option Halt
ended_in On = None
ended_in Full = None
ended_in (Ended halt) = Some halt
