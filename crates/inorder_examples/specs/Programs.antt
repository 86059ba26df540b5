-- Programs on what the stages wait for.
use Rattle.std.specs.Prelude.{ℕ, List, [], ◌∷◌}

-- a load whose value the next instruction needs
abbrev pub load_and_use : List ℕ
load_and_use =
    0x800002b7  -- 80000000: lui x5, 0x80000
    ∷ 0x0002a303  -- 80000004: lw x6, 0(x5)
    ∷ 0x00130393  -- 80000008: addi x7, x6, 1
    ∷ 0x00100437  -- 8000000c: lui x8, 0x100
    ∷ 0x000054b7  -- 80000010: lui x9, 0x5
    ∷ 0x55548493  -- 80000014: addi x9, x9, 1365
    ∷ 0x00942023  -- 80000018: sw x9, 0(x8)
    ∷ []

-- the same with an instruction between them that doesn't need it
abbrev pub load_and_later_use : List ℕ
load_and_later_use =
    0x800002b7  -- 80000000: lui x5, 0x80000
    ∷ 0x0002a303  -- 80000004: lw x6, 0(x5)
    ∷ 0x00100437  -- 80000008: lui x8, 0x100
    ∷ 0x00130393  -- 8000000c: addi x7, x6, 1
    ∷ 0x000054b7  -- 80000010: lui x9, 0x5
    ∷ 0x55548493  -- 80000014: addi x9, x9, 1365
    ∷ 0x00942023  -- 80000018: sw x9, 0(x8)
    ∷ []
