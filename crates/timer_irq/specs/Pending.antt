-- When the timer interrupt is due (RISC-V privileged manual, section 3.2.1 "Machine Timer Registers").
use Rattle.std.specs.Prelude.{ℕ, Bool, ◌&&◌, nat_le}

-- interrupts are on, and the time has reached mtimecmp
abbrev pub is_pending : Bool → ℕ → ℕ → Bool
is_pending on cmp cycle = on && nat_le cmp cycle
