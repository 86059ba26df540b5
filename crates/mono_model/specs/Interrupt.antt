-- The first phase of a cycle: the timer interrupt (RISC-V privileged manual, section 3.1.9 and 3.2.1).
use Rattle.std.specs.Prelude.{◌+◌, if◌then◌else◌, Bool, None, []}
use Rattle.machine_csr.specs.Trap.{timer_pending}
use Rattle.mono_model.specs.Arch.{compare_of, interrupted}
use Rattle.mono_model.specs.Machine.{Machine, flushed}

abbrev pub is_interrupted : Machine → Bool
is_interrupted m = timer_pending m.arch.csrs m.cycle (compare_of m.arch.devices)

-- the window is flushed, and the trap is taken before the next instruction to commit
abbrev pub take_interrupt : Machine → Machine
take_interrupt m =
    let trap = interrupted m.arch in
    let f = flushed [] trap.pc m in
    record f { arch = trap; kept = None; counts = record f.counts { interrupts = f.counts.interrupts + 1 } }

unfoldable pub interrupt_phase : Machine → Machine
interrupt_phase m = if is_interrupted m then take_interrupt m else m
