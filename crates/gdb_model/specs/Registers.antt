-- GDB's numbers of registers (GDB, features/riscv and riscv-tdep.h).
use Rattle.std.specs.Prelude.{ℕ, ◌+◌, ◌-◌, ◌==◌, nat_le, nat_lt, if◌then◌else◌, Option, Some, None}
use Rattle.mono_model.specs.declared.setup.Setup.{Setup}
use Rattle.func_model.specs.Position.{csr_at, found, next_address}

-- x0 to x31, pc, and from 65 on the CSRs by their addresses
abbrev pub csr_number : ℕ → ℕ
csr_number csr = 65 + csr

abbrev pub register_at : Setup → ℕ → ℕ → Option ℕ
register_at s at number =
    if nat_lt number 32 then Some ((found s at).regs number)
    else if number == 32 then Some (next_address s at)
    else if nat_le (csr_number 0) number then csr_at s at (number - csr_number 0)
    else None
