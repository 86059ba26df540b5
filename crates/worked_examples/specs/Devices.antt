-- Programs on the console and the finisher.
use Rattle.std.specs.Prelude.{ℕ, List, [], ◌∷◌}

-- sends the letters of a string in the data, each once the line status says that it may
abbrev pub uart_driver : List ℕ
uart_driver =
    0x10000437  -- 80000000: lui x8, 0x10000
    ∷ 0x08300493  -- 80000004: addi x9, x0, 131
    ∷ 0x009401a3  -- 80000008: sb x9, 3(x8)
    ∷ 0x00300493  -- 8000000c: addi x9, x0, 3
    ∷ 0x00940023  -- 80000010: sb x9, 0(x8)
    ∷ 0x000400a3  -- 80000014: sb x0, 1(x8)
    ∷ 0x009401a3  -- 80000018: sb x9, 3(x8)
    ∷ 0x00001597  -- 8000001c: auipc x11, 0x1
    ∷ 0xfe458593  -- 80000020: addi x11, x11, -28
    ∷ 0x0005c603  -- 80000024: lbu x12, 0(x11)
    ∷ 0x00060e63  -- 80000028: beq x12, x0, 0x80000044
    ∷ 0x00544683  -- 8000002c: lbu x13, 5(x8)
    ∷ 0x0206f693  -- 80000030: andi x13, x13, 32
    ∷ 0xfe068ce3  -- 80000034: beq x13, x0, 0x8000002c
    ∷ 0x00c40023  -- 80000038: sb x12, 0(x8)
    ∷ 0x00158593  -- 8000003c: addi x11, x11, 1
    ∷ 0xfe5ff06f  -- 80000040: jal x0, 0x80000024
    ∷ 0x00100337  -- 80000044: lui x6, 0x100
    ∷ 0x000053b7  -- 80000048: lui x7, 0x5
    ∷ 0x55538393  -- 8000004c: addi x7, x7, 1365
    ∷ 0x00732023  -- 80000050: sw x7, 0(x6)
    ∷ []

-- a taken branch over a load of the console, and a load of the console behind it
abbrev pub console_load_on_a_wrong_path : List ℕ
console_load_on_a_wrong_path =
    0x00100293  -- 80000000: addi x5, x0, 1
    ∷ 0x10000437  -- 80000004: lui x8, 0x10000
    ∷ 0x00029463  -- 80000008: bne x5, x0, 0x80000010
    ∷ 0x00044483  -- 8000000c: lbu x9, 0(x8)
    ∷ 0x00044503  -- 80000010: lbu x10, 0(x8)
    ∷ 0x00100337  -- 80000014: lui x6, 0x100
    ∷ 0x000053b7  -- 80000018: lui x7, 0x5
    ∷ 0x55538393  -- 8000001c: addi x7, x7, 1365
    ∷ 0x00732023  -- 80000020: sw x7, 0(x6)
    ∷ []

-- a division, and five bytes to the console behind it
abbrev pub bytes_behind_a_division : List ℕ
bytes_behind_a_division =
    0x10000437  -- 80000000: lui x8, 0x10000
    ∷ 0x04100493  -- 80000004: addi x9, x0, 65
    ∷ 0x0294c533  -- 80000008: div x10, x9, x9
    ∷ 0x00940023  -- 8000000c: sb x9, 0(x8)
    ∷ 0x00940023  -- 80000010: sb x9, 0(x8)
    ∷ 0x00940023  -- 80000014: sb x9, 0(x8)
    ∷ 0x00940023  -- 80000018: sb x9, 0(x8)
    ∷ 0x00940023  -- 8000001c: sb x9, 0(x8)
    ∷ 0x00100337  -- 80000020: lui x6, 0x100
    ∷ 0x000053b7  -- 80000024: lui x7, 0x5
    ∷ 0x55538393  -- 80000028: addi x7, x7, 1365
    ∷ 0x00732023  -- 8000002c: sw x7, 0(x6)
    ∷ []

-- stores the word of failure 7 to the finisher
abbrev pub failure_code : List ℕ
failure_code =
    0x001002b7  -- 80000000: lui x5, 0x100
    ∷ 0x00073337  -- 80000004: lui x6, 0x73
    ∷ 0x33330313  -- 80000008: addi x6, x6, 819
    ∷ 0x0062a023  -- 8000000c: sw x6, 0(x5)
    ∷ []

-- the line status, the divisor latch, and two bytes of input until none is left
abbrev pub console_registers : List ℕ
console_registers =
    0x10000437  -- 80000000: lui x8, 0x10000
    ∷ 0x08300493  -- 80000004: addi x9, x0, 131
    ∷ 0x00544503  -- 80000008: lbu x10, 5(x8)
    ∷ 0x009401a3  -- 8000000c: sb x9, 3(x8)
    ∷ 0x00940023  -- 80000010: sb x9, 0(x8)
    ∷ 0x00344583  -- 80000014: lbu x11, 3(x8)
    ∷ 0x00044603  -- 80000018: lbu x12, 0(x8)
    ∷ 0x000401a3  -- 8000001c: sb x0, 3(x8)
    ∷ 0x00044683  -- 80000020: lbu x13, 0(x8)
    ∷ 0x00040703  -- 80000024: lb x14, 0(x8)
    ∷ 0x00544783  -- 80000028: lbu x15, 5(x8)
    ∷ 0x00044803  -- 8000002c: lbu x16, 0(x8)
    ∷ 0x00942023  -- 80000030: sw x9, 0(x8)
    ∷ 0x00100337  -- 80000034: lui x6, 0x100
    ∷ 0x000053b7  -- 80000038: lui x7, 0x5
    ∷ 0x55538393  -- 8000003c: addi x7, x7, 1365
    ∷ 0x00732023  -- 80000040: sw x7, 0(x6)
    ∷ []

-- a half and an unknown word to the finisher, and then the word of failure 259
abbrev pub finisher_without_an_end : List ℕ
finisher_without_an_end =
    0x001002b7  -- 80000000: lui x5, 0x100
    ∷ 0x00005337  -- 80000004: lui x6, 0x5
    ∷ 0x55530313  -- 80000008: addi x6, x6, 1365
    ∷ 0x00629023  -- 8000000c: sh x6, 0(x5)
    ∷ 0x0002a023  -- 80000010: sw x0, 0(x5)
    ∷ 0x010333b7  -- 80000014: lui x7, 0x1033
    ∷ 0x33338393  -- 80000018: addi x7, x7, 819
    ∷ 0x00038393  -- 8000001c: addi x7, x7, 0
    ∷ 0x0002a403  -- 80000020: lw x8, 0(x5)
    ∷ 0x0072a023  -- 80000024: sw x7, 0(x5)
    ∷ 0x00100493  -- 80000028: addi x9, x0, 1
    ∷ 0x00100337  -- 8000002c: lui x6, 0x100
    ∷ 0x000053b7  -- 80000030: lui x7, 0x5
    ∷ 0x55538393  -- 80000034: addi x7, x7, 1365
    ∷ 0x00732023  -- 80000038: sw x7, 0(x6)
    ∷ []
