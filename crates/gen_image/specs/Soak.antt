-- The soak program: traps, timer interrupts, arithmetic, memory, loops and calls, as the draws of a
-- seed order them.
use Rattle.std.specs.Prelude.{ℕ, ◌+◌, ◌%◌, true, List, [], ◌∷◌, get_or, length, map}
use Rattle.elf_image.specs.declared.image.Image.{Image}
use Rattle.elf_image.specs.Write.{words}
use Rattle.fsim_base.specs.declared.access.RamRange.{RamRange}
use Rattle.rand_pcg.specs.Lcg.{Lcg, started, increment_of}
use Rattle.rand_pcg.specs.Pcg.{multiplier_64}
use Rattle.rv_decode.specs.declared.insn.Insn.{Insn}
use Rattle.rv_decode.specs.Encode.{encode_of}
use Rattle.gen_image.specs.Assembly.{minus, upper, lui, auipc, addi, andi, add, sub, sll, sltu, xor}
use Rattle.gen_image.specs.Assembly.{or, mul, divu, lw, sw, bne, blt, jal, jalr, csrrw, csrrs}
use Rattle.gen_image.specs.Assembly.{csrrsi, ecall, mret, mstatus, mie, mtvec, mepc, mcause}
use Rattle.gen_image.specs.Draws.{Code, with_draw, with_register, plain, in_turn, each}

-- The beginning. The handler goes on behind an exception's instruction, and at a timer interrupt
-- sets the next one 1,000 units later.
unfoldable pub handler : List Insn
handler =
    jal 0 44
    ∷ csrrs 28 mcause 0
    ∷ blt 28 0 20
    ∷ csrrs 28 mepc 0
    ∷ addi 28 28 4
    ∷ csrrw 0 mepc 28
    ∷ mret
    ∷ lw 28 0 22
    ∷ addi 28 28 1000
    ∷ sw 28 0 22
    ∷ mret
    ∷ []

-- x20 points into RAM and x22 to mtimecmp; the first timer interrupt comes at time 1,000
unfoldable pub opening : List Insn
opening =
    auipc 5 0
    ∷ addi 5 5 (minus 40)
    ∷ csrrw 0 mtvec 5
    ∷ lui 20 (upper 0x80800)
    ∷ lui 22 (upper 0x02004)
    ∷ addi 6 0 1000
    ∷ sw 6 0 22
    ∷ sw 0 4 22
    ∷ addi 6 0 128
    ∷ csrrs 0 mie 6
    ∷ csrrsi 0 mstatus 8
    ∷ []

-- a register has a first value
abbrev pub first_value : ℕ → Code
first_value x = with_draw (λ n. plain (addi x 0 (n % 2048) ∷ []))

-- one operation on drawn registers
abbrev pub operations : List (ℕ → ℕ → ℕ → Insn)
operations = add ∷ sub ∷ xor ∷ or ∷ sltu ∷ mul ∷ divu ∷ sll ∷ []

abbrev pub operation : Code
operation =
    with_draw (λ op. with_register (λ d. with_register (λ a. with_register (λ b.
    plain (get_or operations (op % 8) add d a b ∷ [])))))

-- a branch that depends on a drawn register
abbrev pub skip : Code
skip =
    with_register (λ a. with_draw (λ n.
    plain (andi 13 a 1 ∷ bne 13 0 8 ∷ addi a a (n % 2048) ∷ [])))

-- a store, and a load behind it
abbrev pub memory : Code
memory =
    with_register (λ a. with_register (λ b. with_register (λ c.
    plain (andi 13 a 2044 ∷ add 13 13 20 ∷ sw b 0 13 ∷ lw c 0 13 ∷ []))))

-- a loop of one to eight turns
abbrev pub turns : Code
turns =
    with_draw (λ n. with_register (λ a. with_register (λ b.
    plain (addi 14 0 (1 + n % 8) ∷ add a a b ∷ addi 14 14 (minus 1) ∷ bne 14 0 (minus 8) ∷ []))))

-- a call, and its return
abbrev pub call : Code
call =
    with_register (λ a. with_register (λ b.
    plain (jal 1 8 ∷ jal 0 12 ∷ xor a a b ∷ jalr 0 0 1 ∷ [])))

-- a block is of one of six kinds
abbrev pub kinds : List Code
kinds = each (λ k. operation) 8 ∷ skip ∷ memory ∷ turns ∷ call ∷ plain (ecall ∷ []) ∷ []

abbrev pub block : Code
block = with_draw (λ n. get_or kinds (n % 6) (plain []))

-- the end: the word 0x5555 into the finisher
unfoldable pub ending : List Insn
ending = lui 6 (upper 0x100) ∷ lui 7 (upper 5) ∷ addi 7 7 0x555 ∷ sw 7 0 6 ∷ []

-- the whole program
unfoldable pub soak_code : ℕ → Code
soak_code blocks =
    in_turn (plain handler
    ∷ plain opening
    ∷ each (λ k. first_value (5 + k)) 8
    ∷ each (λ k. block) blocks
    ∷ plain ending
    ∷ [])

-- the generator of a seed: PCG XSH RR 64/32 on stream 1
abbrev pub generator : ℕ → Lcg
generator seed = started 64 multiplier_64 seed (increment_of 64 1)

-- its image: one executable segment from the base of RAM on, its entry
abbrev pub program_at : List ℕ → Image
program_at bytes = record {
  entry = 0x80000000;
  segments = record {
    index = 0;
    addr = 0x80000000;
    size = length bytes;
    exec = true;
    bytes = bytes;
  } ∷ [];
}

unfoldable pub soak_image : ℕ → ℕ → Image
soak_image seed blocks = program_at (words (map encode_of (soak_code blocks (generator seed)).0))

-- the RAM of a machine file with no keys
abbrev pub plain_ram : RamRange
plain_ram = record { base = 0x80000000; size = 16777216 }
