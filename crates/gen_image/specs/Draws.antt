-- Code that is made from the draws of a generator, in their order.
use Rattle.std.specs.Prelude.{ℕ, zero, suc, ◌+◌, ◌%◌, List, [], ◌∷◌, ◌++◌}
use Rattle.rv_decode.specs.declared.insn.Insn.{Insn}
use Rattle.rand_pcg.specs.Lcg.{Lcg}
use Rattle.rand_pcg.specs.Pcg.{pcg32}

-- the code that a generator makes, and the generator behind its draws
abbrev pub Code : Type 0
Code = Lcg → List Insn × Lcg

-- a draw: the next 32-bit word, and the generator behind it
unfoldable pub draw : Lcg → ℕ × Lcg
draw g = pcg32 g

-- code of the next draw
abbrev pub with_draw : (ℕ → Code) → Code
with_draw make g = make (draw g).0 (draw g).1

-- code of the register from x5 to x12 that the next draw names
abbrev pub with_register : (ℕ → Code) → Code
with_register make g = make (5 + (draw g).0 % 8) (draw g).1

-- code without a draw
abbrev pub plain : List Insn → Code
plain insns g = (insns, g)

-- parts one behind the other
abbrev pub in_turn : List Code → Code
in_turn [] g = ([], g)
in_turn (part ∷ parts) g =
    ((part g).0 ++ (in_turn parts (part g).1).0, (in_turn parts (part g).1).1)

-- so many parts one behind the other, which are numbered from 0 on
unfoldable pub each : (ℕ → Code) → ℕ → Code
each part zero g = ([], g)
each part (suc n) g =
    ((each part n g).0 ++ (part n (each part n g).1).0, (part n (each part n g).1).1)
