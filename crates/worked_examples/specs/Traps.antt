-- Programs on faults and their handlers.
use Rattle.std.specs.Prelude.{ℕ, List, [], ◌∷◌}

-- a load from address 16 that no RAM has, and a jump through its value; the handler reads mcause and mtval
abbrev pub speculative_misaligned_jump : List ℕ
speculative_misaligned_jump =
    0x00000297  -- 80000000: auipc x5, 0x0
    ∷ 0x02028293  -- 80000004: addi x5, x5, 32
    ∷ 0x30529073  -- 80000008: csrrw x0, mtvec, x5
    ∷ 0x01002403  -- 8000000c: lw x8, 16(x0)
    ∷ 0x00040067  -- 80000010: jalr x0, 0(x8)
    ∷ 0x00000013  -- 80000014: addi x0, x0, 0
    ∷ 0x00000013  -- 80000018: addi x0, x0, 0
    ∷ 0x00000013  -- 8000001c: addi x0, x0, 0
    ∷ 0x342024f3  -- 80000020: csrrs x9, mcause, x0
    ∷ 0x34302573  -- 80000024: csrrs x10, mtval, x0
    ∷ 0x00100337  -- 80000028: lui x6, 0x100
    ∷ 0x000053b7  -- 8000002c: lui x7, 0x5
    ∷ 0x55538393  -- 80000030: addi x7, x7, 1365
    ∷ 0x00732023  -- 80000034: sw x7, 0(x6)
    ∷ []

-- ECALL, with the handler behind it
abbrev pub environment_call : List ℕ
environment_call =
    0x00000297  -- 80000000: auipc x5, 0x0
    ∷ 0x01028293  -- 80000004: addi x5, x5, 16
    ∷ 0x30529073  -- 80000008: csrrw x0, mtvec, x5
    ∷ 0x00000073  -- 8000000c: ecall
    ∷ 0x00100337  -- 80000010: lui x6, 0x100
    ∷ 0x000053b7  -- 80000014: lui x7, 0x5
    ∷ 0x55538393  -- 80000018: addi x7, x7, 1365
    ∷ 0x00732023  -- 8000001c: sw x7, 0(x6)
    ∷ []

-- a word that is no instruction, with mtvec at an address without text
abbrev pub trap_storm : List ℕ
trap_storm =
    0x00000000  -- 80000000: no instruction
    ∷ []

-- a division, two additions and ECALL, with a handler further on
abbrev pub call_behind_a_division : List ℕ
call_behind_a_division =
    0x800002b7  -- 80000000: lui x5, 0x80000
    ∷ 0x02c28293  -- 80000004: addi x5, x5, 44
    ∷ 0x30529073  -- 80000008: csrrw x0, mtvec, x5
    ∷ 0x03200413  -- 8000000c: addi x8, x0, 50
    ∷ 0x00700493  -- 80000010: addi x9, x0, 7
    ∷ 0x02944533  -- 80000014: div x10, x8, x9
    ∷ 0x00100593  -- 80000018: addi x11, x0, 1
    ∷ 0x00200613  -- 8000001c: addi x12, x0, 2
    ∷ 0x00000073  -- 80000020: ecall
    ∷ 0x00300693  -- 80000024: addi x13, x0, 3
    ∷ 0x00400713  -- 80000028: addi x14, x0, 4
    ∷ 0x341027f3  -- 8000002c: csrrs x15, mepc, x0
    ∷ 0x00100337  -- 80000030: lui x6, 0x100
    ∷ 0x000053b7  -- 80000034: lui x7, 0x5
    ∷ 0x55538393  -- 80000038: addi x7, x7, 1365
    ∷ 0x00732023  -- 8000003c: sw x7, 0(x6)
    ∷ []

-- a jump to an address that is no multiple of 4
abbrev pub jump_to_a_misaligned_address : List ℕ
jump_to_a_misaligned_address =
    0x800002b7  -- 80000000: lui x5, 0x80000
    ∷ 0x01c28293  -- 80000004: addi x5, x5, 28
    ∷ 0x30529073  -- 80000008: csrrw x0, mtvec, x5
    ∷ 0x80000437  -- 8000000c: lui x8, 0x80000
    ∷ 0x04240413  -- 80000010: addi x8, x8, 66
    ∷ 0x000400e7  -- 80000014: jalr x1, 0(x8)
    ∷ 0x00300693  -- 80000018: addi x13, x0, 3
    ∷ 0x342024f3  -- 8000001c: csrrs x9, mcause, x0
    ∷ 0x34102573  -- 80000020: csrrs x10, mepc, x0
    ∷ 0x343025f3  -- 80000024: csrrs x11, mtval, x0
    ∷ 0x00100337  -- 80000028: lui x6, 0x100
    ∷ 0x000053b7  -- 8000002c: lui x7, 0x5
    ∷ 0x55538393  -- 80000030: addi x7, x7, 1365
    ∷ 0x00732023  -- 80000034: sw x7, 0(x6)
    ∷ []

-- a jump by a register twice, the second time to an address that is no multiple of 4
abbrev pub jump_whose_target_turns_bad : List ℕ
jump_whose_target_turns_bad =
    0x800002b7  -- 80000000: lui x5, 0x80000
    ∷ 0x02428293  -- 80000004: addi x5, x5, 36
    ∷ 0x30529073  -- 80000008: csrrw x0, mtvec, x5
    ∷ 0x80000437  -- 8000000c: lui x8, 0x80000
    ∷ 0x01c40413  -- 80000010: addi x8, x8, 28
    ∷ 0x00040067  -- 80000014: jalr x0, 0(x8)
    ∷ 0x00148493  -- 80000018: addi x9, x9, 1
    ∷ 0x00240413  -- 8000001c: addi x8, x8, 2
    ∷ 0xff5ff06f  -- 80000020: jal x0, 0x80000014
    ∷ 0x34102573  -- 80000024: csrrs x10, mepc, x0
    ∷ 0x00100337  -- 80000028: lui x6, 0x100
    ∷ 0x000053b7  -- 8000002c: lui x7, 0x5
    ∷ 0x55538393  -- 80000030: addi x7, x7, 1365
    ∷ 0x00732023  -- 80000034: sw x7, 0(x6)
    ∷ []

-- a jump to an address without text
abbrev pub jump_to_the_console : List ℕ
jump_to_the_console =
    0x800002b7  -- 80000000: lui x5, 0x80000
    ∷ 0x01828293  -- 80000004: addi x5, x5, 24
    ∷ 0x30529073  -- 80000008: csrrw x0, mtvec, x5
    ∷ 0x10000437  -- 8000000c: lui x8, 0x10000
    ∷ 0x000400e7  -- 80000010: jalr x1, 0(x8)
    ∷ 0x00300693  -- 80000014: addi x13, x0, 3
    ∷ 0x342024f3  -- 80000018: csrrs x9, mcause, x0
    ∷ 0x34102573  -- 8000001c: csrrs x10, mepc, x0
    ∷ 0x343025f3  -- 80000020: csrrs x11, mtval, x0
    ∷ 0x00100337  -- 80000024: lui x6, 0x100
    ∷ 0x000053b7  -- 80000028: lui x7, 0x5
    ∷ 0x55538393  -- 8000002c: addi x7, x7, 1365
    ∷ 0x00732023  -- 80000030: sw x7, 0(x6)
    ∷ []

-- a store to an address that is nowhere, and a load behind it
abbrev pub store_outside_memory : List ℕ
store_outside_memory =
    0x800002b7  -- 80000000: lui x5, 0x80000
    ∷ 0x02028293  -- 80000004: addi x5, x5, 32
    ∷ 0x30529073  -- 80000008: csrrw x0, mtvec, x5
    ∷ 0x04000413  -- 8000000c: addi x8, x0, 64
    ∷ 0x0002a503  -- 80000010: lw x10, 0(x5)
    ∷ 0x00842023  -- 80000014: sw x8, 0(x8)
    ∷ 0x0002a483  -- 80000018: lw x9, 0(x5)
    ∷ 0x00100593  -- 8000001c: addi x11, x0, 1
    ∷ 0x34202673  -- 80000020: csrrs x12, mcause, x0
    ∷ 0x343026f3  -- 80000024: csrrs x13, mtval, x0
    ∷ 0xb0202773  -- 80000028: csrrs x14, minstret, x0
    ∷ 0x00100337  -- 8000002c: lui x6, 0x100
    ∷ 0x000053b7  -- 80000030: lui x7, 0x5
    ∷ 0x55538393  -- 80000034: addi x7, x7, 1365
    ∷ 0x00732023  -- 80000038: sw x7, 0(x6)
    ∷ []

-- EBREAK, and a handler that returns behind it
abbrev pub breakpoint_and_return : List ℕ
breakpoint_and_return =
    0x800002b7  -- 80000000: lui x5, 0x80000
    ∷ 0x02828293  -- 80000004: addi x5, x5, 40
    ∷ 0x30529073  -- 80000008: csrrw x0, mtvec, x5
    ∷ 0x00100413  -- 8000000c: addi x8, x0, 1
    ∷ 0x00100073  -- 80000010: ebreak
    ∷ 0x00240413  -- 80000014: addi x8, x8, 2
    ∷ 0x00100337  -- 80000018: lui x6, 0x100
    ∷ 0x000053b7  -- 8000001c: lui x7, 0x5
    ∷ 0x55538393  -- 80000020: addi x7, x7, 1365
    ∷ 0x00732023  -- 80000024: sw x7, 0(x6)
    ∷ 0x341024f3  -- 80000028: csrrs x9, mepc, x0
    ∷ 0x00448493  -- 8000002c: addi x9, x9, 4
    ∷ 0x34149073  -- 80000030: csrrw x0, mepc, x9
    ∷ 0x30200073  -- 80000034: mret
    ∷ []
