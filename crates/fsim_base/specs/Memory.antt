-- Memory as a function from address to byte, little endian
-- (RISC-V unprivileged manual, section 1.4: byte-addressed memory, little-endian loads and stores).
use Rattle.std.specs.Prelude.{ℕ, zero, suc, ◌+◌, ◌*◌, ◌/◌, ◌%◌, ◌==◌, if◌then◌else◌}

-- memory with one byte replaced
abbrev pub put_byte : ℕ → ℕ → (ℕ → ℕ) → (ℕ → ℕ)
put_byte addr byte memory = λ x. if x == addr then byte else memory x

-- memory with the low `count` bytes of a value put at `addr` and above, the lowest first
abbrev pub put_bytes : ℕ → ℕ → ℕ → (ℕ → ℕ) → (ℕ → ℕ)
put_bytes zero addr value memory = memory
put_bytes (suc count) addr value memory = put_bytes count (addr + 1) (value / 256) (put_byte addr (value % 256) memory)

-- the value of `count` bytes from `addr` up, the lowest first
abbrev pub from_bytes : ℕ → ℕ → (ℕ → ℕ) → ℕ
from_bytes zero addr memory = 0
from_bytes (suc count) addr memory = memory addr + 256 * from_bytes count (addr + 1) memory
