-- Trap entry and return in machine mode (RISC-V privileged manual, sections 3.1.6.1 "mstatus, privilege and
-- interrupt-enable stack", 3.1.7 "mtvec", 3.1.14 to 3.1.16 "mepc, mcause, mtval" and 3.3.2 "MRET").
use Rattle.std.specs.Prelude.{ℕ, ◌*◌, ◌/◌, ◌%◌, Bool, true, false, ◌&&◌, ◌==◌, nat_le, if◌then◌else◌}
use Rattle.fsim_base.specs.Number.{wrap_sum}
use Rattle.machine_csr.specs.declared.csrs.Csrs.{Csrs}

-- mcause of the machine timer interrupt: the interrupt bit and code 7
abbrev pub timer_interrupt : ℕ
timer_interrupt = 0x80000007

-- the timer interrupt is taken where MIE and MTIE are set and the time is at least mtimecmp
abbrev pub timer_pending : Csrs → ℕ → ℕ → Bool
timer_pending csrs time cmp = csrs.mie && csrs.mtie && nat_le cmp time

-- the registers after a trap with this cause, at this address, with this value for mtval
abbrev pub trap_entered : ℕ → ℕ → ℕ → Csrs → Csrs
trap_entered cause addr value csrs = record csrs { mpie = csrs.mie; mie = false; mepc = addr / 4 * 4; mcause = cause; mtval = value }

-- where a trap goes: to mtvec's base, or in vectored mode (mtvec bit 0) for the timer interrupt to entry 7 from there
abbrev pub handler_of : ℕ → Csrs → ℕ
handler_of cause csrs =
    if cause == timer_interrupt && csrs.mtvec % 2 == 1 then wrap_sum (csrs.mtvec / 4 * 4) (4 * 7) else csrs.mtvec / 4 * 4

-- the registers after MRET
abbrev pub trap_left : Csrs → Csrs
trap_left csrs = record csrs { mie = csrs.mpie; mpie = true }

-- where MRET goes
abbrev pub return_address : Csrs → ℕ
return_address csrs = csrs.mepc
