-- The architectural state of the hart, its memory and its devices
-- (RISC-V unprivileged manual, section 2.1, registers and pc, and section 1.4, memory; privileged manual, section 3.1).
use Rattle.std.specs.Prelude.{ℕ, ◌+◌, ◌*◌, ◌^◌, if◌then◌else◌, ◌==◌, List, [], Option, Some, None, slice_index}
use Rattle.elf_image.specs.declared.image.Image.{Image}
use Rattle.elf_image.specs.Load.{image_byte, is_executable}
use Rattle.machine_csr.specs.declared.csrs.Csrs.{Csrs}
use Rattle.machine_csr.specs.Csr.{opening_csrs}
use Rattle.machine_csr.specs.Trap.{trap_entered, handler_of, timer_interrupt}
use Rattle.device_bus.specs.Bus.{Devices, opening_devices}
use Rattle.mono_model.specs.declared.setup.Setup.{Setup}

pub record Arch : Type 0 where
  -- the address of the next instruction
  pub pc : ℕ
  -- the registers by number; register 0 is never written and holds 0
  pub regs : ℕ → ℕ
  -- RAM, from address to byte
  pub ram : ℕ → ℕ
  -- what fetch reads, from address to byte: 0 outside the executable segments
  pub text : ℕ → ℕ
  -- the control and status registers, with the count of retired instructions
  pub csrs : Csrs
  pub devices : Devices
  -- the bytes sent to the console, the first in front
  pub output : List ℕ

-- the executable bytes of a memory
abbrev pub text_in : Image → (ℕ → ℕ) → (ℕ → ℕ)
text_in image memory = λ addr. if is_executable image addr then memory addr else 0

-- the state before the first instruction: the image in memory, and all else 0
unfoldable pub start : Setup → Arch
start s = record {
  pc = s.image.entry;
  regs = λ register. 0;
  ram = image_byte s.image;
  text = text_in s.image (image_byte s.image);
  csrs = opening_csrs;
  devices = opening_devices s.input;
  output = [];
}

-- mtimecmp, of its two halves
abbrev pub compare_of : Devices → ℕ
compare_of devices = slice_index devices.timer.numbers 0 + 2 ^ 32 * slice_index devices.timer.numbers 1

-- the value of a source register, and 0 where there is none
abbrev pub register_value : (ℕ → ℕ) → Option ℕ → ℕ
register_value regs None = 0
register_value regs (Some register) = regs register

-- the registers with a value written to the destination, if there is one
abbrev pub with_register : Option ℕ → ℕ → (ℕ → ℕ) → (ℕ → ℕ)
with_register None value regs = regs
with_register (Some destination) value regs = λ register. if register == destination then value else regs register

-- a trap taken, with its cause and mtval, by the instruction at an address
unfoldable pub trapped : ℕ → ℕ → ℕ → Arch → Arch
trapped cause mtval addr a = record a { pc = handler_of cause a.csrs; csrs = trap_entered cause addr mtval a.csrs }

-- the timer interrupt taken before the next instruction
abbrev pub interrupted : Arch → Arch
interrupted a = trapped timer_interrupt 0 a.pc a

-- fetch sees memory as it stands
unfoldable pub synced : Setup → Arch → Arch
synced s a = record a { text = text_in s.image a.ram }
