-- Programs that change their own instructions.
use Rattle.std.specs.Prelude.{ℕ, List, [], ◌∷◌}

-- stores an instruction over the one behind FENCE.I
abbrev pub patched_instruction_with_fence : List ℕ
patched_instruction_with_fence =
    0x00000297  -- 80000000: auipc x5, 0x0
    ∷ 0x0242a303  -- 80000004: lw x6, 36(x5)
    ∷ 0x0062a823  -- 80000008: sw x6, 16(x5)
    ∷ 0x0000100f  -- 8000000c: fence.i
    ∷ 0x00100513  -- 80000010: addi x10, x0, 1
    ∷ 0x00100337  -- 80000014: lui x6, 0x100
    ∷ 0x000053b7  -- 80000018: lui x7, 0x5
    ∷ 0x55538393  -- 8000001c: addi x7, x7, 1365
    ∷ 0x00732023  -- 80000020: sw x7, 0(x6)
    ∷ 0x00200513  -- 80000024: addi x10, x0, 2
    ∷ []

-- the same with FENCE in the place of FENCE.I
abbrev pub patched_instruction_without_fence_i : List ℕ
patched_instruction_without_fence_i =
    0x00000297  -- 80000000: auipc x5, 0x0
    ∷ 0x0242a303  -- 80000004: lw x6, 36(x5)
    ∷ 0x0062a823  -- 80000008: sw x6, 16(x5)
    ∷ 0x0000000f  -- 8000000c: fence unknown, unknown
    ∷ 0x00100513  -- 80000010: addi x10, x0, 1
    ∷ 0x00100337  -- 80000014: lui x6, 0x100
    ∷ 0x000053b7  -- 80000018: lui x7, 0x5
    ∷ 0x55538393  -- 8000001c: addi x7, x7, 1365
    ∷ 0x00732023  -- 80000020: sw x7, 0(x6)
    ∷ 0x00200513  -- 80000024: addi x10, x0, 2
    ∷ []
