-- Conditional branches (RISC-V unprivileged manual, section 2.5.2).
use Rattle.std.specs.Prelude.{ℕ, Bool, not, ◌==◌, nat_lt, int_lt, if◌then◌else◌}
use Rattle.rv_exec.specs.Signed.{signed_of}

-- by funct3: BEQ 0, BNE 1, BLT 4, BGE 5, BLTU 6, BGEU 7. No word has another funct3; it would count as the last row.
abbrev pub branch_taken : ℕ → ℕ → ℕ → Bool
branch_taken kind a b =
    if kind == 0 then a == b
    else if kind == 1 then not (a == b)
    else if kind == 4 then int_lt (signed_of a) (signed_of b)
    else if kind == 5 then not (int_lt (signed_of a) (signed_of b))
    else if kind == 6 then nat_lt a b
    else not (nat_lt a b)
