-- Where the devices stand in the address space: three fixed ranges, at the addresses of QEMU's
-- board `virt` (hw/riscv/virt.c: VIRT_UART0, VIRT_CLINT, VIRT_TEST).
use Rattle.std.specs.Prelude.{ℕ, ◌+◌, ◌<◌, ◌≤◌, nat_lt, nat_le, Bool, true, false, ◌&&◌}
use Rattle.fsim_base.specs.declared.access.Width.{Width}
use Rattle.fsim_base.specs.declared.access.Width.TheVariants.{Byte, Half, Word}
use Rattle.fsim_base.specs.Width.{width_bytes, is_aligned}
use Rattle.device_bus.specs.declared.kind.DeviceKind.{DeviceKind}
use Rattle.device_bus.specs.declared.kind.DeviceKind.TheVariants.{Console, Timer, Finisher}

-- `size` bytes from `base`
pub record DeviceRange : Type 0 where
  pub base : ℕ
  pub size : ℕ

abbrev pub range_of : DeviceKind → DeviceRange
range_of Console = record { base = 0x1000_0000; size = 256 }
range_of Timer = record { base = 0x0200_0000; size = 65536 }
range_of Finisher = record { base = 0x0010_0000; size = 4096 }

-- the address lies in the device's range
abbrev pub IsInRange : DeviceKind → ℕ → Type 0
IsInRange kind addr =
    ((range_of kind).base ≤ addr) × (addr < (range_of kind).base + (range_of kind).size)

-- the same as a test
abbrev pub is_in_range : DeviceKind → ℕ → Bool
is_in_range kind addr =
    nat_le (range_of kind).base addr && nat_lt addr ((range_of kind).base + (range_of kind).size)

-- the widths that a device has: the timer words alone, the others all
abbrev pub has_width : DeviceKind → Width → Bool
has_width Console width = true
has_width Timer Byte = false
has_width Timer Half = false
has_width Timer Word = true
has_width Finisher width = true

-- an access that a device accepts: of a width that it has, aligned, and whole inside its range
unfoldable pub accepts_of : DeviceKind → ℕ → Width → Bool
accepts_of kind off width =
    has_width kind width && is_aligned off width
    && nat_le (off + width_bytes width) (range_of kind).size
