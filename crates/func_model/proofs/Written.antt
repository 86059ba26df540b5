-- The register that an instruction writes, by a number that is 0 where it writes none.
use Rattle.std.proofs.lemmas.Grind.{common_steps}
use Rattle.std.proofs.Common.{◌≡◌, ◌<◌, ◌==◌, ℕ, Bool, true, false, if◌then◌else◌, Option, Some, None, unwrap_or, refl, sym, subst, arith}
use Rattle.rv_decode.specs.declared.insn.Insn.{Insn}
use Rattle.rv_decode.specs.declared.insn.Insn.TheVariants as insn
use Rattle.rv_decode.specs.Class.{dest_of, written}
use Rattle.rv_decode.specs.Fits.{Fits}
use Rattle.mono_model.specs.Arch.{with_register}
use Rattle.func_model.specs.Hart.{IsWritten}
use Rattle.func_model.specs.Undo.{register_before}

-- a number tells what is written, and exists
pub record Tells (destination : Option ℕ) (number : ℕ) : Type 0 where
  pub written : IsWritten destination number
  pub exists : number < 32

none_told : Tells None (unwrap_or None 0)
none_told = record { written = refl; exists = omega arith }

number_told : (rd : ℕ) → rd < 32 → Tells (written rd) (unwrap_or (written rd) 0)
number_told rd below = by_test (rd == 0) refl
  where
    by_test : (none : Bool) → (rd == 0) ≡ none → Tells (if none then None else Some rd) (unwrap_or (if none then None else Some rd) 0)
    by_test true is = none_told
    by_test false is = record { written = (refl, grind (arith, common_steps, is)); exists = below }

register_told : (i : Insn) → Fits i → Tells (dest_of i) (unwrap_or (dest_of i) 0)
register_told (insn.Jalr rd rs1 imm) fits = number_told rd fits.0
register_told (insn.Branch kind rs1 rs2 imm) fits = none_told
register_told (insn.Load kind rd rs1 imm) fits = number_told rd fits.2
register_told (insn.Store kind rs1 rs2 imm) fits = none_told
register_told (insn.OpImm kind alt rd rs1 imm) fits = number_told rd fits.2
register_told (insn.Op kind alt rd rs1 rs2) fits = number_told rd fits.2
register_told (insn.MulDiv kind rd rs1 rs2) fits = number_told rd fits.1
register_told (insn.Csr kind rd rs1 csr) fits = number_told rd fits.3
register_told (insn.Lui rd imm) fits = number_told rd fits.0
register_told (insn.Auipc rd imm) fits = number_told rd fits.0
register_told (insn.Jal rd imm) fits = number_told rd fits.0
register_told (insn.Fence rd rs1 upper fetch) fits = none_told
register_told insn.Ecall fits = none_told
register_told insn.Ebreak fits = none_told
register_told insn.Mret fits = none_told
register_told insn.Wfi fits = none_told

-- what is kept of an instruction tells it
pub kept_told : (i : Insn) (destination : Option ℕ) (number : ℕ) → Fits i → destination ≡ dest_of i → number ≡ unwrap_or (dest_of i) 0 → Tells destination number
kept_told i destination number fits is number_is =
    subst (λ d. Tells d number) (sym is) (subst (λ n. Tells (dest_of i) n) (sym number_is) (register_told i fits))

-- x0 written back leaves what the instruction writes
pub kept_written : (destination : Option ℕ) (number value : ℕ) (regs : ℕ → ℕ) → IsWritten destination number →
    with_register (Some 0) (regs 0) (with_register (Some number) value regs) ≡ with_register destination value regs
kept_written None number value regs none =
    let at : (x : ℕ) → (if x == 0 then regs 0 else (if x == number then value else regs x)) ≡ regs x = λ x. grind (arith, common_steps, none) in
    λ i x. at x i
kept_written (Some register) number value regs told =
    let is : number ≡ register = told.0 in
    let above : 0 < register = told.1 in
    let at : (x : ℕ) → (if x == 0 then regs 0 else (if x == number then value else regs x)) ≡ (if x == register then value else regs x) =
    λ x. grind (arith, common_steps, is, above) in
    λ i x. at x i

-- its register as it is before
pub before_written : (destination : Option ℕ) (number : ℕ) (regs : ℕ → ℕ) → IsWritten destination number →
    record { register = number; value = regs number } ≡ register_before destination regs
before_written None number regs none = λ i. record { register = none i; value = regs (none i) }
before_written (Some register) number regs told = λ i. record { register = told.0 i; value = regs (told.0 i) }
