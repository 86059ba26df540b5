-- What a debugger sees at a position of the run alone: after so many steps, before the next one.
use Rattle.std.specs.Prelude.{◌≡◌, ℕ, ◌-◌, ◌/◌, ◌%◌, ◌^◌, nat_lt, Bool, if◌then◌else◌, not, is_none, is_some}
use Rattle.std.specs.Prelude.{Option, Some, None}
use Rattle.fsim_base.specs.Range.{is_inside}
use Rattle.fsim_base.specs.declared.access.Access.{Access}
use Rattle.fsim_base.specs.declared.access.Access.TheVariants as access
use Rattle.fsim_base.specs.declared.access.Width.{Width}
use Rattle.fsim_base.specs.declared.access.Width.TheVariants.{Byte, Word}
use Rattle.fsim_base.specs.declared.access.RamRange.{RamRange}
use Rattle.machine_csr.specs.declared.csrs.Csrs.{Csrs}
use Rattle.machine_csr.specs.Csr.{read_by, row_at}
use Rattle.device_bus.specs.declared.kind.DeviceKind.{DeviceKind}
use Rattle.device_bus.specs.declared.kind.DeviceKind.TheVariants.{Console, Timer, Finisher}
use Rattle.device_bus.specs.Device.{loading}
use Rattle.device_bus.specs.Bus.{Devices, answer_at, is_in_range, range_of}
use Rattle.mono_model.specs.declared.setup.Setup.{Setup}
use Rattle.mono_model.specs.Setup.{ram_range}
use Rattle.mono_model.specs.Arch.{Arch, compare_of}
use Rattle.mono_model.specs.Result.{Result}
use Rattle.mono_model.specs.Sequence.{result_at}
use Rattle.mono_model.specs.Final.{has_ended}
use Rattle.mono_model.specs.Alone.{alone}
use Rattle.func_model.specs.declared.looking.Ahead.{Ahead}
use Rattle.func_model.specs.declared.looking.Ahead.TheVariants.{Ended, Step}
use Rattle.func_model.specs.Contents.{before}
use Rattle.func_model.specs.History.{end_at, walk}

-- the run goes on after so many steps. At the limit of steps, and after a store that ends the run,
-- it doesn't; that the output is full shows only when the step is tried
abbrev pub is_going : Setup → ℕ → Bool
is_going s at = not (has_ended (alone s at).end)

-- the state that the next instruction finds: a pending timer interrupt is taken first
abbrev pub found : Setup → ℕ → Arch
found s at = if is_going s at then before at (walk s at) else walk s at

-- the address of the next instruction
abbrev pub next_address : Setup → ℕ → ℕ
next_address s at = (found s at).pc

-- the load or store of an instruction that retires
abbrev pub made_access : Result → Access
made_access r = if is_none r.cause then r.access else access.Nothing

-- what the step at a position loads or stores, if there is a step
abbrev pub reach : Setup → ℕ → Access
reach s at =
    if is_some (end_at s at) then access.Nothing
    else made_access (result_at s (Some at) (found s at))

-- what comes next at a position: how the run has ended, or what the next step loads or stores
abbrev pub LiesAhead : Setup → ℕ → Ahead → Type 0
LiesAhead s at (Ended end) = end_at s at ≡ Some end
LiesAhead s at (Step made) = (end_at s at ≡ None) × (reach s at ≡ made)

-- what a CSR instruction would read of a register at a time
abbrev pub csr_of : Csrs → ℕ → ℕ → ℕ → Option ℕ
csr_of csrs csr time cmp =
    if is_some (row_at csr) then Some (read_by (row_at csr) csrs time cmp) else None

abbrev pub csr_at : Setup → ℕ → ℕ → Option ℕ
csr_at s at csr = csr_of (found s at).csrs csr at (compare_of (found s at).devices)

-- what a load from a device would give, which changes nothing
abbrev pub peeked : Devices → DeviceKind → ℕ → Width → ℕ → ℕ
peeked devices kind addr width time =
    (answer_at devices kind (loading (addr - (range_of kind).base) width time)).value

-- a byte of a device as it is looked at, at a time: of the console that of what a load of the byte
-- would give, of the timer that of what a load of the word would
abbrev pub device_byte_of : Devices → ℕ → ℕ → Option ℕ
device_byte_of devices time addr =
    if is_in_range Console addr then Some (peeked devices Console addr Byte time % 256)
    else if is_in_range Timer addr
    then Some (peeked devices Timer (addr - addr % 4) Word time / 256 ^ (addr % 4) % 256)
    else if is_in_range Finisher addr then Some 0
    else None

-- a byte of memory, not of the text, or of a device
abbrev pub byte_of : RamRange → Arch → ℕ → ℕ → Option ℕ
byte_of range a time addr =
    if is_inside range addr 1 then Some (a.ram addr % 256) else device_byte_of a.devices time addr

-- the same at a position; an address has 32 bits
abbrev pub byte_at : Setup → ℕ → ℕ → Option ℕ
byte_at s at addr =
    if nat_lt addr (2 ^ 32) then byte_of (ram_range s.params) (walk s at) at addr else None
