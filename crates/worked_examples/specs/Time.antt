-- Programs on reads of the time and the timer interrupt.
use Rattle.std.specs.Prelude.{ℕ, List, [], ◌∷◌}

-- reads mcycle twice
abbrev pub cycle_counter_twice : List ℕ
cycle_counter_twice =
    0xb00022f3  -- 80000000: csrrs x5, mcycle, x0
    ∷ 0xb0002373  -- 80000004: csrrs x6, mcycle, x0
    ∷ 0x00100437  -- 80000008: lui x8, 0x100
    ∷ 0x000054b7  -- 8000000c: lui x9, 0x5
    ∷ 0x55548493  -- 80000010: addi x9, x9, 1365
    ∷ 0x00942023  -- 80000014: sw x9, 0(x8)
    ∷ []

-- enables the timer interrupt for cycle 16, and reads mcycle; the handler writes mtimecmp and returns
abbrev pub timer_interrupt_between : List ℕ
timer_interrupt_between =
    0x00000297  -- 80000000: auipc x5, 0x0
    ∷ 0x04028293  -- 80000004: addi x5, x5, 64
    ∷ 0x30529073  -- 80000008: csrrw x0, mtvec, x5
    ∷ 0x02004437  -- 8000000c: lui x8, 0x2004
    ∷ 0x01000493  -- 80000010: addi x9, x0, 16
    ∷ 0x00042223  -- 80000014: sw x0, 4(x8)
    ∷ 0x00942023  -- 80000018: sw x9, 0(x8)
    ∷ 0x08000513  -- 8000001c: addi x10, x0, 128
    ∷ 0x30452073  -- 80000020: csrrs x0, mie, x10
    ∷ 0x30046073  -- 80000024: csrrsi x0, mstatus, 8
    ∷ 0xb00025f3  -- 80000028: csrrs x11, mcycle, x0
    ∷ 0x00100337  -- 8000002c: lui x6, 0x100
    ∷ 0x000053b7  -- 80000030: lui x7, 0x5
    ∷ 0x55538393  -- 80000034: addi x7, x7, 1365
    ∷ 0x00732023  -- 80000038: sw x7, 0(x6)
    ∷ 0x00000013  -- 8000003c: addi x0, x0, 0
    ∷ 0xfff00613  -- 80000040: addi x12, x0, -1
    ∷ 0x00c42223  -- 80000044: sw x12, 4(x8)
    ∷ 0x30200073  -- 80000048: mret
    ∷ []

-- enables the timer interrupt, with a vectored handler whose first instruction reads mtime
abbrev pub vectored_interrupt_reads_time : List ℕ
vectored_interrupt_reads_time =
    0x00000297  -- 80000000: auipc x5, 0x0
    ∷ 0x04128293  -- 80000004: addi x5, x5, 65
    ∷ 0x30529073  -- 80000008: csrrw x0, mtvec, x5
    ∷ 0x02004437  -- 8000000c: lui x8, 0x2004
    ∷ 0x0200c6b7  -- 80000010: lui x13, 0x200c
    ∷ 0x00042223  -- 80000014: sw x0, 4(x8)
    ∷ 0x00042023  -- 80000018: sw x0, 0(x8)
    ∷ 0x08000513  -- 8000001c: addi x10, x0, 128
    ∷ 0x30452073  -- 80000020: csrrs x0, mie, x10
    ∷ 0x30046073  -- 80000024: csrrsi x0, mstatus, 8
    ∷ 0x00000000  -- 80000028: no instruction
    ∷ 0x00000000  -- 8000002c: no instruction
    ∷ 0x00000000  -- 80000030: no instruction
    ∷ 0x00000000  -- 80000034: no instruction
    ∷ 0x00000000  -- 80000038: no instruction
    ∷ 0x00000000  -- 8000003c: no instruction
    ∷ 0x00000000  -- 80000040: no instruction
    ∷ 0x00000000  -- 80000044: no instruction
    ∷ 0x00000000  -- 80000048: no instruction
    ∷ 0x00000000  -- 8000004c: no instruction
    ∷ 0x00000000  -- 80000050: no instruction
    ∷ 0x00000000  -- 80000054: no instruction
    ∷ 0x00000000  -- 80000058: no instruction
    ∷ 0xff86a603  -- 8000005c: lw x12, -8(x13)
    ∷ 0x00100337  -- 80000060: lui x6, 0x100
    ∷ 0x000053b7  -- 80000064: lui x7, 0x5
    ∷ 0x55538393  -- 80000068: addi x7, x7, 1365
    ∷ 0x00732023  -- 8000006c: sw x7, 0(x6)
    ∷ []

-- enables the timer interrupt for cycle 59, and reads mcycle; the handler begins with a read of mcycle
abbrev pub interrupt_between_replay_and_fetch : List ℕ
interrupt_between_replay_and_fetch =
    0x800002b7  -- 80000000: lui x5, 0x80000
    ∷ 0x03028293  -- 80000004: addi x5, x5, 48
    ∷ 0x30529073  -- 80000008: csrrw x0, mtvec, x5
    ∷ 0x02004437  -- 8000000c: lui x8, 0x2004
    ∷ 0x03b00493  -- 80000010: addi x9, x0, 59
    ∷ 0x00042223  -- 80000014: sw x0, 4(x8)
    ∷ 0x00942023  -- 80000018: sw x9, 0(x8)
    ∷ 0x08000513  -- 8000001c: addi x10, x0, 128
    ∷ 0x30452073  -- 80000020: csrrs x0, mie, x10
    ∷ 0x30046073  -- 80000024: csrrsi x0, mstatus, 8
    ∷ 0xb00025f3  -- 80000028: csrrs x11, mcycle, x0
    ∷ 0x00100613  -- 8000002c: addi x12, x0, 1
    ∷ 0xb00026f3  -- 80000030: csrrs x13, mcycle, x0
    ∷ 0x00100337  -- 80000034: lui x6, 0x100
    ∷ 0x000053b7  -- 80000038: lui x7, 0x5
    ∷ 0x55538393  -- 8000003c: addi x7, x7, 1365
    ∷ 0x00732023  -- 80000040: sw x7, 0(x6)
    ∷ []

-- the same for cycle 56
abbrev pub interrupt_at_the_replay : List ℕ
interrupt_at_the_replay =
    0x800002b7  -- 80000000: lui x5, 0x80000
    ∷ 0x03028293  -- 80000004: addi x5, x5, 48
    ∷ 0x30529073  -- 80000008: csrrw x0, mtvec, x5
    ∷ 0x02004437  -- 8000000c: lui x8, 0x2004
    ∷ 0x03800493  -- 80000010: addi x9, x0, 56
    ∷ 0x00042223  -- 80000014: sw x0, 4(x8)
    ∷ 0x00942023  -- 80000018: sw x9, 0(x8)
    ∷ 0x08000513  -- 8000001c: addi x10, x0, 128
    ∷ 0x30452073  -- 80000020: csrrs x0, mie, x10
    ∷ 0x30046073  -- 80000024: csrrsi x0, mstatus, 8
    ∷ 0xb00025f3  -- 80000028: csrrs x11, mcycle, x0
    ∷ 0x00100613  -- 8000002c: addi x12, x0, 1
    ∷ 0xb00026f3  -- 80000030: csrrs x13, mcycle, x0
    ∷ 0x00100337  -- 80000034: lui x6, 0x100
    ∷ 0x000053b7  -- 80000038: lui x7, 0x5
    ∷ 0x55538393  -- 8000003c: addi x7, x7, 1365
    ∷ 0x00732023  -- 80000040: sw x7, 0(x6)
    ∷ []

-- writes mcycle without a read, in two forms, and then with one
abbrev pub cycle_counter_written : List ℕ
cycle_counter_written =
    0x00700293  -- 80000000: addi x5, x0, 7
    ∷ 0xb0029073  -- 80000004: csrrw x0, mcycle, x5
    ∷ 0xb001d073  -- 80000008: csrrwi x0, mcycle, 3
    ∷ 0xb0202473  -- 8000000c: csrrs x8, minstret, x0
    ∷ 0xb00294f3  -- 80000010: csrrw x9, mcycle, x5
    ∷ 0x00100337  -- 80000014: lui x6, 0x100
    ∷ 0x000053b7  -- 80000018: lui x7, 0x5
    ∷ 0x55538393  -- 8000001c: addi x7, x7, 1365
    ∷ 0x00732023  -- 80000020: sw x7, 0(x6)
    ∷ []

-- a taken branch over reads of mcycle and of mtime, and a read of mtime behind them
abbrev pub time_read_on_a_wrong_path : List ℕ
time_read_on_a_wrong_path =
    0x0200c437  -- 80000000: lui x8, 0x200c
    ∷ 0x00100493  -- 80000004: addi x9, x0, 1
    ∷ 0x00049663  -- 80000008: bne x9, x0, 0x80000014
    ∷ 0xb0002573  -- 8000000c: csrrs x10, mcycle, x0
    ∷ 0xff842583  -- 80000010: lw x11, -8(x8)
    ∷ 0xff842603  -- 80000014: lw x12, -8(x8)
    ∷ 0xffc42683  -- 80000018: lw x13, -4(x8)
    ∷ 0x00100337  -- 8000001c: lui x6, 0x100
    ∷ 0x000053b7  -- 80000020: lui x7, 0x5
    ∷ 0x55538393  -- 80000024: addi x7, x7, 1365
    ∷ 0x00732023  -- 80000028: sw x7, 0(x6)
    ∷ []

-- stores and loads the halves of mtimecmp, reads mip below and above it, and loads one byte of mtime
abbrev pub compare_registers : List ℕ
compare_registers =
    0x800002b7  -- 80000000: lui x5, 0x80000
    ∷ 0x03828293  -- 80000004: addi x5, x5, 56
    ∷ 0x30529073  -- 80000008: csrrw x0, mtvec, x5
    ∷ 0x02004437  -- 8000000c: lui x8, 0x2004
    ∷ 0x00042483  -- 80000010: lw x9, 0(x8)
    ∷ 0x00042223  -- 80000014: sw x0, 4(x8)
    ∷ 0x34402573  -- 80000018: csrrs x10, mip, x0
    ∷ 0x01e00593  -- 8000001c: addi x11, x0, 30
    ∷ 0x00b42023  -- 80000020: sw x11, 0(x8)
    ∷ 0x34402673  -- 80000024: csrrs x12, mip, x0
    ∷ 0x00042683  -- 80000028: lw x13, 0(x8)
    ∷ 0x00442703  -- 8000002c: lw x14, 4(x8)
    ∷ 0x0200c7b7  -- 80000030: lui x15, 0x200c
    ∷ 0xff87c803  -- 80000034: lbu x16, -8(x15)
    ∷ 0x342028f3  -- 80000038: csrrs x17, mcause, x0
    ∷ 0x34302973  -- 8000003c: csrrs x18, mtval, x0
    ∷ 0x00100337  -- 80000040: lui x6, 0x100
    ∷ 0x000053b7  -- 80000044: lui x7, 0x5
    ∷ 0x55538393  -- 80000048: addi x7, x7, 1365
    ∷ 0x00732023  -- 8000004c: sw x7, 0(x6)
    ∷ []

-- enables the timer interrupt for cycle 20, and counts; the handler sets mtimecmp 20 cycles further and returns
abbrev pub interrupt_storm : List ℕ
interrupt_storm =
    0x800002b7  -- 80000000: lui x5, 0x80000
    ∷ 0x04c28293  -- 80000004: addi x5, x5, 76
    ∷ 0x30529073  -- 80000008: csrrw x0, mtvec, x5
    ∷ 0x02004437  -- 8000000c: lui x8, 0x2004
    ∷ 0x01400493  -- 80000010: addi x9, x0, 20
    ∷ 0x00042223  -- 80000014: sw x0, 4(x8)
    ∷ 0x00942023  -- 80000018: sw x9, 0(x8)
    ∷ 0x08000513  -- 8000001c: addi x10, x0, 128
    ∷ 0x30452073  -- 80000020: csrrs x0, mie, x10
    ∷ 0x30046073  -- 80000024: csrrsi x0, mstatus, 8
    ∷ 0x01e00593  -- 80000028: addi x11, x0, 30
    ∷ 0xfff58593  -- 8000002c: addi x11, x11, -1
    ∷ 0x00160613  -- 80000030: addi x12, x12, 1
    ∷ 0xfe059ce3  -- 80000034: bne x11, x0, 0x8000002c
    ∷ 0x30047073  -- 80000038: csrrci x0, mstatus, 8
    ∷ 0x00100337  -- 8000003c: lui x6, 0x100
    ∷ 0x000053b7  -- 80000040: lui x7, 0x5
    ∷ 0x55538393  -- 80000044: addi x7, x7, 1365
    ∷ 0x00732023  -- 80000048: sw x7, 0(x6)
    ∷ 0x01448493  -- 8000004c: addi x9, x9, 20
    ∷ 0x00942023  -- 80000050: sw x9, 0(x8)
    ∷ 0x00168693  -- 80000054: addi x13, x13, 1
    ∷ 0x30200073  -- 80000058: mret
    ∷ []
