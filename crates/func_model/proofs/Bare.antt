-- An instruction that is evaluated without its registers.
use Rattle.std.proofs.Common.{◌≡◌, ℕ, ◌<◌, ◌&&◌, Bool, true, false, not, nat_lt, if◌then◌else◌, Option, Some, None, is_none, option_map, unwrap_or, refl, sym, ap, ◌∙◌, arith}
use Rattle.fsim_base.specs.declared.cause.Cause.{Cause}
use Rattle.rv_decode.specs.declared.insn.Insn.{Insn}
use Rattle.rv_decode.specs.declared.insn.Insn.TheVariants as insn
use Rattle.rv_decode.specs.Class.{sources_of}
use Rattle.rv_decode.specs.Fits.{Fits}
use Rattle.rv_exec.specs.declared.outcome.Outcome.{Outcome}
use Rattle.rv_exec.specs.Eval.{eval_of}
use Rattle.rv_exec.specs.Bare.{bare_of}
use Rattle.mono_model.specs.Found.{known, is_fence_i}
use Rattle.func_model.specs.Steps.{reaches_out, outcome_at, plain_outcome}

-- the registers that it reads exist
pub record ReadsRegisters (i : Insn) : Type 0 where
  pub first : unwrap_or (sources_of i).0 0 < 32
  pub second : unwrap_or (sources_of i).1 0 < 32

csr_reads : (imm : Bool) (rs1 : ℕ) → rs1 < 32 → unwrap_or (if◌then◌else◌ {A = Option ℕ × Option ℕ} imm (Some rs1, None) (None, None)).0 0 < 32
csr_reads true rs1 exists = exists
csr_reads false rs1 exists = omega arith

csr_reads_one : (imm : Bool) (rs1 : ℕ) → unwrap_or (if◌then◌else◌ {A = Option ℕ × Option ℕ} imm (Some rs1, None) (None, None)).1 0 < 32
csr_reads_one true rs1 = omega arith
csr_reads_one false rs1 = omega arith

pub registers_exist : (i : Insn) → Fits i → ReadsRegisters i
registers_exist (insn.Jalr rd rs1 imm) fits = record { first = fits.1; second = omega arith }
registers_exist (insn.Branch kind rs1 rs2 imm) fits = record { first = fits.3; second = fits.4 }
registers_exist (insn.Load kind rd rs1 imm) fits = record { first = fits.3; second = omega arith }
registers_exist (insn.Store kind rs1 rs2 imm) fits = record { first = fits.1; second = fits.2 }
registers_exist (insn.OpImm kind alt rd rs1 imm) fits = record { first = fits.3; second = omega arith }
registers_exist (insn.Op kind alt rd rs1 rs2) fits = record { first = fits.3; second = fits.4 }
registers_exist (insn.MulDiv kind rd rs1 rs2) fits = record { first = fits.2; second = fits.3 }
registers_exist (insn.Csr kind rd rs1 csr) fits = record { first = csr_reads (nat_lt kind 4) rs1 fits.4; second = csr_reads_one (nat_lt kind 4) rs1 }
registers_exist (insn.Lui rd imm) fits = record { first = omega arith; second = omega arith }
registers_exist (insn.Auipc rd imm) fits = record { first = omega arith; second = omega arith }
registers_exist (insn.Jal rd imm) fits = record { first = omega arith; second = omega arith }
registers_exist (insn.Fence rd rs1 upper fetch) fits = record { first = omega arith; second = omega arith }
registers_exist insn.Ecall fits = record { first = omega arith; second = omega arith }
registers_exist insn.Ebreak fits = record { first = omega arith; second = omega arith }
registers_exist insn.Mret fits = record { first = omega arith; second = omega arith }
registers_exist insn.Wfi fits = record { first = omega arith; second = omega arith }

-- what an instruction isn't that only computes, and what its outcome is
pub record OnlyComputes (word : ℕ) (i : Insn) (addr a b : ℕ) (o : Outcome) : Type 0 where
  pub outcome : o ≡ eval_of i addr a b
  pub inside : reaches_out i ≡ false
  pub no_fence : is_fence_i (known word i) ≡ false

some_same : (x y : Outcome) → Some x ≡ Some y → x ≡ y
some_same x y same = cc

none_found : (x : Outcome) → Some x ≡ None → ⊥
none_found x same = cc

pub only_computes : (word : ℕ) (i : Insn) (addr a b : ℕ) (o : Outcome) → Some o ≡ option_map (λ bare. eval_of bare addr a b) (bare_of i) →
    OnlyComputes word i addr a b o
unfolding eval_of
only_computes word (insn.Lui rd imm) addr a b o is = record { outcome = some_same o _ is; inside = refl; no_fence = refl }
only_computes word (insn.Auipc rd imm) addr a b o is = record { outcome = some_same o _ is; inside = refl; no_fence = refl }
only_computes word (insn.Jal rd imm) addr a b o is = record { outcome = some_same o _ is; inside = refl; no_fence = refl }
only_computes word (insn.Jalr rd rs1 imm) addr a b o is = record { outcome = some_same o _ is; inside = refl; no_fence = refl }
only_computes word (insn.Branch kind rs1 rs2 imm) addr a b o is = record { outcome = some_same o _ is; inside = refl; no_fence = refl }
only_computes word (insn.OpImm kind alt rd rs1 imm) addr a b o is = record { outcome = some_same o _ is; inside = refl; no_fence = refl }
only_computes word (insn.Op kind alt rd rs1 rs2) addr a b o is = record { outcome = some_same o _ is; inside = refl; no_fence = refl }
only_computes word (insn.MulDiv kind rd rs1 rs2) addr a b o is = record { outcome = some_same o _ is; inside = refl; no_fence = refl }
only_computes word (insn.Fence rd rs1 upper true) addr a b o is = absurd (none_found o is)
only_computes word (insn.Fence rd rs1 upper false) addr a b o is = record { outcome = some_same o _ is; inside = refl; no_fence = refl }
only_computes word insn.Wfi addr a b o is = record { outcome = some_same o _ is; inside = refl; no_fence = refl }
only_computes word (insn.Load kind rd rs1 imm) addr a b o is = absurd (none_found o is)
only_computes word (insn.Store kind rs1 rs2 imm) addr a b o is = absurd (none_found o is)
only_computes word insn.Ecall addr a b o is = absurd (none_found o is)
only_computes word insn.Ebreak addr a b o is = absurd (none_found o is)
only_computes word insn.Mret addr a b o is = absurd (none_found o is)
only_computes word (insn.Csr kind rd rs1 csr) addr a b o is = absurd (none_found o is)

chosen : (test : Bool) (o : Outcome) → test ≡ true → Some o ≡ (if test then Some o else None)
chosen true o is = refl
chosen false o is = cc

-- so where it doesn't trap, it is plain
pub plain_is : (i : Insn) (addr : ℕ) (regs : ℕ → ℕ) (o : Outcome) → o ≡ outcome_at i addr regs → reaches_out i ≡ false → o.cause ≡ None → Some o ≡ plain_outcome i addr regs
plain_is i addr regs o is inside none =
    let caused : (outcome_at i addr regs).cause ≡ None = sym (ap (λ (x : Outcome). x.cause) is) ∙ none in
    let tests : (not (reaches_out i) && is_none (outcome_at i addr regs).cause) ≡ true = λ j. not (inside j) && is_none (caused j) in
    ap Some is ∙ chosen (not (reaches_out i) && is_none (outcome_at i addr regs).cause) (outcome_at i addr regs) tests

unchosen : (test : Bool) (o : Outcome) → test ≡ false → (if test then Some o else None) ≡ None
unchosen true o is = cc
unchosen false o is = refl

-- what only computes and lets fetch see nothing, as it is evaluated
abbrev pub quiet_outcome : ℕ → Insn → ℕ → (ℕ → ℕ) → Option Outcome
quiet_outcome word i addr regs = if is_fence_i (known word i) then None else plain_outcome i addr regs

-- there is none where there is no instruction without registers
pub none_quiet : (word : ℕ) (i : Insn) (addr a b : ℕ) (regs : ℕ → ℕ) → None ≡ option_map (λ bare. eval_of bare addr a b) (bare_of i) →
    quiet_outcome word i addr regs ≡ None
unfolding eval_of
none_quiet word (insn.Lui rd imm) addr a b regs is = absurd (none_found _ (sym is))
none_quiet word (insn.Auipc rd imm) addr a b regs is = absurd (none_found _ (sym is))
none_quiet word (insn.Jal rd imm) addr a b regs is = absurd (none_found _ (sym is))
none_quiet word (insn.Jalr rd rs1 imm) addr a b regs is = absurd (none_found _ (sym is))
none_quiet word (insn.Branch kind rs1 rs2 imm) addr a b regs is = absurd (none_found _ (sym is))
none_quiet word (insn.OpImm kind alt rd rs1 imm) addr a b regs is = absurd (none_found _ (sym is))
none_quiet word (insn.Op kind alt rd rs1 rs2) addr a b regs is = absurd (none_found _ (sym is))
none_quiet word (insn.MulDiv kind rd rs1 rs2) addr a b regs is = absurd (none_found _ (sym is))
none_quiet word (insn.Fence rd rs1 upper true) addr a b regs is = refl
none_quiet word (insn.Fence rd rs1 upper false) addr a b regs is = absurd (none_found _ (sym is))
none_quiet word insn.Wfi addr a b regs is = absurd (none_found _ (sym is))
none_quiet word (insn.Load kind rd rs1 imm) addr a b regs is = refl
none_quiet word (insn.Store kind rs1 rs2 imm) addr a b regs is = refl
none_quiet word insn.Ecall addr a b regs is = refl
none_quiet word insn.Ebreak addr a b regs is = refl
none_quiet word insn.Mret addr a b regs is = refl
none_quiet word (insn.Csr kind rd rs1 csr) addr a b regs is = refl

-- nor where it traps
pub caused_quiet : (word : ℕ) (i : Insn) (addr : ℕ) (regs : ℕ → ℕ) (o : Outcome) (why : Cause × ℕ) → o ≡ outcome_at i addr regs → reaches_out i ≡ false →
    is_fence_i (known word i) ≡ false → o.cause ≡ Some why → quiet_outcome word i addr regs ≡ None
caused_quiet word i addr regs o why is inside no_fence caused =
    let there : (outcome_at i addr regs).cause ≡ Some why = sym (ap (λ (x : Outcome). x.cause) is) ∙ caused in
    let tests : (not (reaches_out i) && is_none (outcome_at i addr regs).cause) ≡ false = λ j. not (inside j) && is_none (there j) in
    ap (λ (fence : Bool). if fence then None else plain_outcome i addr regs) no_fence
    ∙ unchosen (not (reaches_out i) && is_none (outcome_at i addr regs).cause) (outcome_at i addr regs) tests
