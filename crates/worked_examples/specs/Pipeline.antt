-- Programs on the order of instructions, units and predictions.
use Rattle.std.specs.Prelude.{ℕ, List, [], ◌∷◌}

-- stores the word of a pass to the finisher
abbrev pub smallest_pass : List ℕ
smallest_pass =
    0x001002b7  -- 80000000: lui x5, 0x100
    ∷ 0x00005337  -- 80000004: lui x6, 0x5
    ∷ 0x55530313  -- 80000008: addi x6, x6, 1365
    ∷ 0x0062a023  -- 8000000c: sw x6, 0(x5)
    ∷ []

-- a loop of ten rounds with its branch at the end
abbrev pub backward_branch_loop : List ℕ
backward_branch_loop =
    0x00a00293  -- 80000000: addi x5, x0, 10
    ∷ 0xfff28293  -- 80000004: addi x5, x5, -1
    ∷ 0xfe029ee3  -- 80000008: bne x5, x0, 0x80000004
    ∷ 0x00100337  -- 8000000c: lui x6, 0x100
    ∷ 0x000053b7  -- 80000010: lui x7, 0x5
    ∷ 0x55538393  -- 80000014: addi x7, x7, 1365
    ∷ 0x00732023  -- 80000018: sw x7, 0(x6)
    ∷ []

-- quotients and remainders of 0x80000000 by -1 and of 7 by 0, and a branch over a word that is no instruction
abbrev pub division_corner_cases : List ℕ
division_corner_cases =
    0x800002b7  -- 80000000: lui x5, 0x80000
    ∷ 0xfff00313  -- 80000004: addi x6, x0, -1
    ∷ 0x0262c3b3  -- 80000008: div x7, x5, x6
    ∷ 0x00700413  -- 8000000c: addi x8, x0, 7
    ∷ 0x020444b3  -- 80000010: div x9, x8, x0
    ∷ 0x0262e533  -- 80000014: rem x10, x5, x6
    ∷ 0x020465b3  -- 80000018: rem x11, x8, x0
    ∷ 0x00538463  -- 8000001c: beq x7, x5, 0x80000024
    ∷ 0x00000000  -- 80000020: no instruction
    ∷ 0x00100e37  -- 80000024: lui x28, 0x100
    ∷ 0x00005eb7  -- 80000028: lui x29, 0x5
    ∷ 0x555e8e93  -- 8000002c: addi x29, x29, 1365
    ∷ 0x01de2023  -- 80000030: sw x29, 0(x28)
    ∷ []

-- a taken branch over a store of a failure to the finisher
abbrev pub finisher_store_on_a_wrong_path : List ℕ
finisher_store_on_a_wrong_path =
    0x00100337  -- 80000000: lui x6, 0x100
    ∷ 0x000033b7  -- 80000004: lui x7, 0x3
    ∷ 0x33338393  -- 80000008: addi x7, x7, 819
    ∷ 0x00000463  -- 8000000c: beq x0, x0, 0x80000014
    ∷ 0x00732023  -- 80000010: sw x7, 0(x6)
    ∷ 0x000053b7  -- 80000014: lui x7, 0x5
    ∷ 0x55538393  -- 80000018: addi x7, x7, 1365
    ∷ 0x00732023  -- 8000001c: sw x7, 0(x6)
    ∷ []

-- a loop of three rounds that ends with a line of 16 bytes
abbrev pub loop_at_a_line_end : List ℕ
loop_at_a_line_end =
    0x00300293  -- 80000000: addi x5, x0, 3
    ∷ 0xfff28293  -- 80000004: addi x5, x5, -1
    ∷ 0x00540413  -- 80000008: addi x8, x8, 5
    ∷ 0xfe029ce3  -- 8000000c: bne x5, x0, 0x80000004
    ∷ 0x00100337  -- 80000010: lui x6, 0x100
    ∷ 0x000053b7  -- 80000014: lui x7, 0x5
    ∷ 0x55538393  -- 80000018: addi x7, x7, 1365
    ∷ 0x00732023  -- 8000001c: sw x7, 0(x6)
    ∷ []

-- four divisions and three multiplications of the same numbers
abbrev pub four_divisions : List ℕ
four_divisions =
    0x06400293  -- 80000000: addi x5, x0, 100
    ∷ 0x00700413  -- 80000004: addi x8, x0, 7
    ∷ 0x0282c4b3  -- 80000008: div x9, x5, x8
    ∷ 0x0282e533  -- 8000000c: rem x10, x5, x8
    ∷ 0x025455b3  -- 80000010: divu x11, x8, x5
    ∷ 0x0282f633  -- 80000014: remu x12, x5, x8
    ∷ 0x028286b3  -- 80000018: mul x13, x5, x8
    ∷ 0x0252b733  -- 8000001c: mulhu x14, x5, x5
    ∷ 0x028407b3  -- 80000020: mul x15, x8, x8
    ∷ 0x00100337  -- 80000024: lui x6, 0x100
    ∷ 0x000053b7  -- 80000028: lui x7, 0x5
    ∷ 0x55538393  -- 8000002c: addi x7, x7, 1365
    ∷ 0x00732023  -- 80000030: sw x7, 0(x6)
    ∷ []

-- twelve rounds with a branch that is taken in every second
abbrev pub alternating_branch : List ℕ
alternating_branch =
    0x00c00293  -- 80000000: addi x5, x0, 12
    ∷ 0x0012f413  -- 80000004: andi x8, x5, 1
    ∷ 0x00040463  -- 80000008: beq x8, x0, 0x80000010
    ∷ 0x00148493  -- 8000000c: addi x9, x9, 1
    ∷ 0xfff28293  -- 80000010: addi x5, x5, -1
    ∷ 0xfe0298e3  -- 80000014: bne x5, x0, 0x80000004
    ∷ 0x00100337  -- 80000018: lui x6, 0x100
    ∷ 0x000053b7  -- 8000001c: lui x7, 0x5
    ∷ 0x55538393  -- 80000020: addi x7, x7, 1365
    ∷ 0x00732023  -- 80000024: sw x7, 0(x6)
    ∷ []

-- a loop of six rounds that begins with a branch to the next address
abbrev pub branch_to_the_next : List ℕ
branch_to_the_next =
    0x00600293  -- 80000000: addi x5, x0, 6
    ∷ 0x00000263  -- 80000004: beq x0, x0, 0x80000008
    ∷ 0xfff28293  -- 80000008: addi x5, x5, -1
    ∷ 0xfe029ce3  -- 8000000c: bne x5, x0, 0x80000004
    ∷ 0x00100337  -- 80000010: lui x6, 0x100
    ∷ 0x000053b7  -- 80000014: lui x7, 0x5
    ∷ 0x55538393  -- 80000018: addi x7, x7, 1365
    ∷ 0x00732023  -- 8000001c: sw x7, 0(x6)
    ∷ []

-- three calls of a function
abbrev pub calls_in_a_loop : List ℕ
calls_in_a_loop =
    0x00300293  -- 80000000: addi x5, x0, 3
    ∷ 0x01c000ef  -- 80000004: jal x1, 0x80000020
    ∷ 0xfff28293  -- 80000008: addi x5, x5, -1
    ∷ 0xfe029ce3  -- 8000000c: bne x5, x0, 0x80000004
    ∷ 0x00100337  -- 80000010: lui x6, 0x100
    ∷ 0x000053b7  -- 80000014: lui x7, 0x5
    ∷ 0x55538393  -- 80000018: addi x7, x7, 1365
    ∷ 0x00732023  -- 8000001c: sw x7, 0(x6)
    ∷ 0x00140413  -- 80000020: addi x8, x8, 1
    ∷ 0x00008067  -- 80000024: jalr x0, 0(x1)
    ∷ []

-- register 0 as the destination of a division and of a load, and as a source behind them
abbrev pub writes_to_register_zero : List ℕ
writes_to_register_zero =
    0x80000437  -- 80000000: lui x8, 0x80000
    ∷ 0x00900493  -- 80000004: addi x9, x0, 9
    ∷ 0x0294c033  -- 80000008: div x0, x9, x9
    ∷ 0x00900533  -- 8000000c: add x10, x0, x9
    ∷ 0x00042003  -- 80000010: lw x0, 0(x8)
    ∷ 0x409005b3  -- 80000014: sub x11, x0, x9
    ∷ 0x00100337  -- 80000018: lui x6, 0x100
    ∷ 0x000053b7  -- 8000001c: lui x7, 0x5
    ∷ 0x55538393  -- 80000020: addi x7, x7, 1365
    ∷ 0x00732023  -- 80000024: sw x7, 0(x6)
    ∷ []

-- four multiplications of the same number
abbrev pub four_multiplications : List ℕ
four_multiplications =
    0x00300293  -- 80000000: addi x5, x0, 3
    ∷ 0x02528433  -- 80000004: mul x8, x5, x5
    ∷ 0x025294b3  -- 80000008: mulh x9, x5, x5
    ∷ 0x0252a533  -- 8000000c: mulhsu x10, x5, x5
    ∷ 0x0252b5b3  -- 80000010: mulhu x11, x5, x5
    ∷ 0x00100337  -- 80000014: lui x6, 0x100
    ∷ 0x000053b7  -- 80000018: lui x7, 0x5
    ∷ 0x55538393  -- 8000001c: addi x7, x7, 1365
    ∷ 0x00732023  -- 80000020: sw x7, 0(x6)
    ∷ []

-- twenty rounds of three instructions
abbrev pub three_instruction_loop : List ℕ
three_instruction_loop =
    0x01400293  -- 80000000: addi x5, x0, 20
    ∷ 0x00140413  -- 80000004: addi x8, x8, 1
    ∷ 0xfff28293  -- 80000008: addi x5, x5, -1
    ∷ 0xfe029ce3  -- 8000000c: bne x5, x0, 0x80000004
    ∷ 0x00100337  -- 80000010: lui x6, 0x100
    ∷ 0x000053b7  -- 80000014: lui x7, 0x5
    ∷ 0x55538393  -- 80000018: addi x7, x7, 1365
    ∷ 0x00732023  -- 8000001c: sw x7, 0(x6)
    ∷ []
