-- Programs on loads, stores and caches.
use Rattle.std.specs.Prelude.{ℕ, List, [], ◌∷◌}

-- a branch that depends on a missing load, with a load on either path
abbrev pub load_on_a_wrong_path : List ℕ
load_on_a_wrong_path =
    0x00000417  -- 80000000: auipc x8, 0x0
    ∷ 0x04042483  -- 80000004: lw x9, 64(x8)
    ∷ 0x00048463  -- 80000008: beq x9, x0, 0x80000010
    ∷ 0x08042503  -- 8000000c: lw x10, 128(x8)
    ∷ 0x04042583  -- 80000010: lw x11, 64(x8)
    ∷ 0x00100337  -- 80000014: lui x6, 0x100
    ∷ 0x000053b7  -- 80000018: lui x7, 0x5
    ∷ 0x55538393  -- 8000001c: addi x7, x7, 1365
    ∷ 0x00732023  -- 80000020: sw x7, 0(x6)
    ∷ []

-- a load of a word over which a byte, a half and a word are stored behind a division
abbrev pub partly_covering_stores : List ℕ
partly_covering_stores =
    0x00000417  -- 80000000: auipc x8, 0x0
    ∷ 0x02844533  -- 80000004: div x10, x8, x8
    ∷ 0x0aa00293  -- 80000008: addi x5, x0, 170
    ∷ 0x7bc00313  -- 8000000c: addi x6, x0, 1980
    ∷ 0x04540023  -- 80000010: sb x5, 64(x8)
    ∷ 0x04641123  -- 80000014: sh x6, 66(x8)
    ∷ 0x04042483  -- 80000018: lw x9, 64(x8)
    ∷ 0x00100337  -- 8000001c: lui x6, 0x100
    ∷ 0x000053b7  -- 80000020: lui x7, 0x5
    ∷ 0x55538393  -- 80000024: addi x7, x7, 1365
    ∷ 0x00732023  -- 80000028: sw x7, 0(x6)
    ∷ []

-- a store to one line and a load from another
abbrev pub dirty_line_is_dropped : List ℕ
dirty_line_is_dropped =
    0x00000417  -- 80000000: auipc x8, 0x0
    ∷ 0x04842023  -- 80000004: sw x8, 64(x8)
    ∷ 0x08042483  -- 80000008: lw x9, 128(x8)
    ∷ 0x00100337  -- 8000000c: lui x6, 0x100
    ∷ 0x000053b7  -- 80000010: lui x7, 0x5
    ∷ 0x55538393  -- 80000014: addi x7, x7, 1365
    ∷ 0x00732023  -- 80000018: sw x7, 0(x6)
    ∷ []

-- a word that depends on a division, a half, and bytes stored over each other, with loads between
abbrev pub overlapping_stores : List ℕ
overlapping_stores =
    0x80000437  -- 80000000: lui x8, 0x80000
    ∷ 0x10040413  -- 80000004: addi x8, x8, 256
    ∷ 0x123454b7  -- 80000008: lui x9, 0x12345
    ∷ 0x05500513  -- 8000000c: addi x10, x0, 85
    ∷ 0x02a4c5b3  -- 80000010: div x11, x9, x10
    ∷ 0x00b42023  -- 80000014: sw x11, 0(x8)
    ∷ 0x00a41123  -- 80000018: sh x10, 2(x8)
    ∷ 0x000401a3  -- 8000001c: sb x0, 3(x8)
    ∷ 0x00042603  -- 80000020: lw x12, 0(x8)
    ∷ 0x00245683  -- 80000024: lhu x13, 2(x8)
    ∷ 0x00a40023  -- 80000028: sb x10, 0(x8)
    ∷ 0x00140703  -- 8000002c: lb x14, 1(x8)
    ∷ 0x00042783  -- 80000030: lw x15, 0(x8)
    ∷ 0x04042803  -- 80000034: lw x16, 64(x8)
    ∷ 0x00100337  -- 80000038: lui x6, 0x100
    ∷ 0x000053b7  -- 8000003c: lui x7, 0x5
    ∷ 0x55538393  -- 80000040: addi x7, x7, 1365
    ∷ 0x00732023  -- 80000044: sw x7, 0(x6)
    ∷ []

-- loads of lines A, B, A, C, A and B, all in one set
abbrev pub three_lines_in_two_ways : List ℕ
three_lines_in_two_ways =
    0x80000437  -- 80000000: lui x8, 0x80000
    ∷ 0x00042483  -- 80000004: lw x9, 0(x8)
    ∷ 0x04042503  -- 80000008: lw x10, 64(x8)
    ∷ 0x00442583  -- 8000000c: lw x11, 4(x8)
    ∷ 0x08042603  -- 80000010: lw x12, 128(x8)
    ∷ 0x00842683  -- 80000014: lw x13, 8(x8)
    ∷ 0x04042703  -- 80000018: lw x14, 64(x8)
    ∷ 0x00100337  -- 8000001c: lui x6, 0x100
    ∷ 0x000053b7  -- 80000020: lui x7, 0x5
    ∷ 0x55538393  -- 80000024: addi x7, x7, 1365
    ∷ 0x00732023  -- 80000028: sw x7, 0(x6)
    ∷ []

-- stores to two lines and loads of others between them
abbrev pub dirty_lines : List ℕ
dirty_lines =
    0x80000437  -- 80000000: lui x8, 0x80000
    ∷ 0x10040413  -- 80000004: addi x8, x8, 256
    ∷ 0x00100493  -- 80000008: addi x9, x0, 1
    ∷ 0x00942023  -- 8000000c: sw x9, 0(x8)
    ∷ 0x04042503  -- 80000010: lw x10, 64(x8)
    ∷ 0x00042583  -- 80000014: lw x11, 0(x8)
    ∷ 0x08942023  -- 80000018: sw x9, 128(x8)
    ∷ 0x0c042603  -- 8000001c: lw x12, 192(x8)
    ∷ 0x08042683  -- 80000020: lw x13, 128(x8)
    ∷ 0x00942223  -- 80000024: sw x9, 4(x8)
    ∷ 0x00942423  -- 80000028: sw x9, 8(x8)
    ∷ 0x00042703  -- 8000002c: lw x14, 0(x8)
    ∷ 0x04042783  -- 80000030: lw x15, 64(x8)
    ∷ 0x00100337  -- 80000034: lui x6, 0x100
    ∷ 0x000053b7  -- 80000038: lui x7, 0x5
    ∷ 0x55538393  -- 8000003c: addi x7, x7, 1365
    ∷ 0x00732023  -- 80000040: sw x7, 0(x6)
    ∷ []

-- a load from an odd address; the handler reads mcause and mtval
abbrev pub misaligned_load : List ℕ
misaligned_load =
    0x800002b7  -- 80000000: lui x5, 0x80000
    ∷ 0x01028293  -- 80000004: addi x5, x5, 16
    ∷ 0x30529073  -- 80000008: csrrw x0, mtvec, x5
    ∷ 0x0012a403  -- 8000000c: lw x8, 1(x5)
    ∷ 0x342024f3  -- 80000010: csrrs x9, mcause, x0
    ∷ 0x34302573  -- 80000014: csrrs x10, mtval, x0
    ∷ 0x00100337  -- 80000018: lui x6, 0x100
    ∷ 0x000053b7  -- 8000001c: lui x7, 0x5
    ∷ 0x55538393  -- 80000020: addi x7, x7, 1365
    ∷ 0x00732023  -- 80000024: sw x7, 0(x6)
    ∷ []
