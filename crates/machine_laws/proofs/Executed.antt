-- What the result of an instruction depends on beside its operands.
use Rattle.std.proofs.Common.{◌≡◌, ℕ, ◌⊎◌, Bool, true, false, if◌then◌else◌, Option, Some, None, List, refl, ap, sym, subst, inl, inr}
use Rattle.fsim_base.specs.Number.{wrap_sum}
use Rattle.fsim_base.specs.Width.{width_bytes}
use Rattle.fsim_base.specs.Memory.{from_bytes}
use Rattle.fsim_base.specs.declared.access.Spot.{Spot}
use Rattle.fsim_base.specs.declared.access.Spot.TheVariants.{Ram, Device, Nowhere}
use Rattle.fsim_base.specs.declared.access.Width.{Width}
use Rattle.fsim_base.specs.declared.access.RamRange.{RamRange}
use Rattle.fsim_base.specs.declared.cause.Cause.{Cause}
use Rattle.fsim_base.specs.declared.instruction.Class.{Class}
use Rattle.fsim_base.specs.declared.instruction.Class.TheVariants as class
use Rattle.rv_decode.specs.declared.insn.Insn.{Insn}
use Rattle.rv_decode.specs.declared.insn.Insn.TheVariants as insn
use Rattle.rv_decode.specs.Class.{class_of}
use Rattle.machine_csr.specs.declared.csrs.CsrWrite.{CsrWrite}
use Rattle.rv_exec.specs.declared.outcome.Outcome.{Outcome}
use Rattle.rv_exec.specs.declared.outcome.Reach.{Reach}
use Rattle.rv_exec.specs.declared.outcome.Reach.TheVariants as reach
use Rattle.rv_exec.specs.Eval.{eval_of, branched}
use Rattle.rv_exec.specs.Branch.{branch_taken}
use Rattle.mono_model.specs.Found.{Found, refused, unknown, known, class_in, is_csr_insn, is_mret_insn}
use Rattle.mono_model.specs.Result.{Result, Seen, executed, by_cause, reached, csr_result, csr_read, loaded_at, loaded_raw, raw_at, spot_of}
use Rattle.mono_model.specs.Effect.{with_store}
use Rattle.mono_model.specs.Window.{Record, is_store_class, are_stores_done}
use Rattle.mono_model.specs.Issue.{is_oldest, load_allows, class_allows}

-- only loads load, and only stores store
abbrev pub Fits : Class → Reach → Type 0
Fits of_class reach.Nothing = Unit {0}
Fits of_class (reach.Load addr width signed) = of_class ≡ class.Load
Fits of_class (reach.Store addr width value) = of_class ≡ class.Store

branch_fits : (taken : Bool) (addr target : ℕ) → Fits class.Alu (branched addr taken target).reach
branch_fits true addr target = tt
branch_fits false addr target = tt

pub fits : (i : Insn) (addr x y : ℕ) → Fits (class_of i) (eval_of i addr x y).reach
unfolding eval_of
fits (insn.Lui rd imm) addr x y = tt
fits (insn.Auipc rd imm) addr x y = tt
fits (insn.Jal rd imm) addr x y = tt
fits (insn.Jalr rd rs1 imm) addr x y = tt
fits (insn.Branch kind rs1 rs2 imm) addr x y = branch_fits (branch_taken kind x y) addr (wrap_sum addr imm)
fits (insn.Load kind rd rs1 imm) addr x y = refl
fits (insn.Store kind rs1 rs2 imm) addr x y = refl
fits (insn.OpImm kind alt rd rs1 imm) addr x y = tt
fits (insn.Op kind alt rd rs1 rs2) addr x y = tt
fits (insn.MulDiv kind rd rs1 rs2) addr x y = tt
fits insn.Ecall addr x y = tt
fits insn.Ebreak addr x y = tt
fits (insn.Fence rd rs1 upper fetch) addr x y = tt
fits insn.Wfi addr x y = tt
fits insn.Mret addr x y = tt
fits (insn.Csr kind rd rs1 csr) addr x y = tt

-- an instruction is about the CSRs, or it isn't
pub by_kind : (i : Insn) → (class_of i ≡ class.Serial) ⊎ ((is_csr_insn i ≡ false) × (is_mret_insn i ≡ false))
by_kind (insn.Csr kind rd rs1 csr) = inl refl
by_kind insn.Mret = inl refl
by_kind i = inr (refl, refl)

-- What two views of the machine have in common: memory, where all older stores are done; and all, for the oldest.
pub record Alike (older : List Record) (e f : Seen) : Type 0 where
  pub bytes : are_stores_done older ≡ true → e.bytes ≡ f.bytes
  pub all : is_oldest older ≡ true → e ≡ f

module _ (range : RamRange) (older : List Record) (e f : Seen) (alike : Alike older e f) where
  spot_alike : (next addr : ℕ) (width : Width) (signed : Bool) (spot : Spot) → load_allows (loaded_at next addr width signed e spot).access older ≡ true →
      loaded_at next addr width signed e spot ≡ loaded_at next addr width signed f spot
  spot_alike next addr width signed Ram allows =
      ap (λ (bytes : ℕ → ℕ). loaded_raw next addr width signed Ram (Some (from_bytes (width_bytes width) addr bytes))) (alike.bytes allows)
  spot_alike next addr width signed Device allows =
      ap (λ (g : Seen). loaded_at next addr width signed g Device) (alike.all (is_device (raw_at e addr width Device) allows))
    where
      is_device : (raw : Option ℕ) → load_allows (loaded_raw next addr width signed Device raw).access older ≡ true → is_oldest older ≡ true
      is_device None allows = allows
      is_device (Some raw) allows = allows
  spot_alike next addr width signed Nowhere allows = refl

  reach_alike : (c : Class) (o : Outcome) (what : Reach) → Fits c what → class_allows c (reached range e o what).access older ≡ true →
      reached range e o what ≡ reached range f o what
  reach_alike c o reach.Nothing fit allows = refl
  reach_alike c o (reach.Load target width signed) fit allows =
      spot_alike o.next target width signed (spot_of range target width)
      (let P : Class → Type 0 = λ k. class_allows k (loaded_at o.next target width signed e (spot_of range target width)).access older ≡ true in subst P fit allows)
  reach_alike c o (reach.Store target width value) fit allows = refl

  cause_alike : (c : Class) (o : Outcome) (why : Option (Cause × ℕ)) → Fits c o.reach → class_allows c (by_cause range e o why).access older ≡ true →
      by_cause range e o why ≡ by_cause range f o why
  cause_alike c o None fit allows = reach_alike c o o.reach fit allows
  cause_alike c o (Some why) fit allows = refl

  -- an instruction that may issue has the same result in both
  pub executed_alike : (found : Found) (addr x y : ℕ) → class_allows (class_in found) (executed range found addr x y e).access older ≡ true →
      executed range found addr x y e ≡ executed range found addr x y f
  unfolding executed
  executed_alike (refused cause) addr x y allows = refl
  executed_alike (unknown word) addr x y allows = refl
  executed_alike (known word i) addr x y allows = elim (by_kind i) [
    | inl serial ↦
        ap (λ (g : Seen). executed range (known word i) addr x y g)
        (alike.all (let P : Class → Type 0 = λ c. class_allows c (executed range (known word i) addr x y e).access older ≡ true in subst P serial allows))
    | inr (csr, mret) ↦
        let o : Outcome = eval_of i addr x y in
        rw (csr, mret) (cause_alike (class_of i) o o.cause (fits i addr x y) (rw (csr, mret) at allows))
  ]

-- an instruction that is no store leaves memory
if_kept : (b : Bool) (r t : Result) (value : ℕ) (ram : ℕ → ℕ) → with_store r.access value ram ≡ ram → with_store t.access value ram ≡ ram →
    with_store (if◌then◌else◌ {A = Result} b r t).access value ram ≡ ram
if_kept true r t value ram first second = first
if_kept false r t value ram first second = second

csr_kept : (word : ℕ) (i : Insn) (addr : ℕ) (time : Option ℕ) (done : Option (ℕ × CsrWrite)) (value : ℕ) (ram : ℕ → ℕ) →
    with_store (csr_result word i addr time done).access value ram ≡ ram
csr_kept word i addr time None value ram = refl
csr_kept word i addr time (Some done) value ram = refl

load_kept : (next addr : ℕ) (width : Width) (signed : Bool) (spot : Spot) (raw : Option ℕ) (value : ℕ) (ram : ℕ → ℕ) →
    with_store (loaded_raw next addr width signed spot raw).access value ram ≡ ram
load_kept next addr width signed spot None value ram = refl
load_kept next addr width signed spot (Some raw) value ram = refl

reach_kept : (range : RamRange) (c : Class) (e : Seen) (o : Outcome) (what : Reach) (value : ℕ) (ram : ℕ → ℕ) → Fits c what →
    is_store_class c ≡ false → with_store (reached range e o what).access value ram ≡ ram
reach_kept range c e o reach.Nothing value ram fit no_store = refl
reach_kept range c e o (reach.Load target width signed) value ram fit no_store =
    load_kept o.next target width signed (spot_of range target width) (raw_at e target width (spot_of range target width)) value ram
reach_kept range c e o (reach.Store target width stored) value ram fit no_store =
    let P : Class → Type 0 = λ k. is_store_class k ≡ false in
    let is : true ≡ false = subst P fit no_store in
    cc

attempt_kept : (range : RamRange) (c : Class) (e : Seen) (o : Outcome) (what : Reach) (why : Option (Cause × ℕ)) (value : ℕ) (ram : ℕ → ℕ) → o.reach ≡ what →
    Fits c what → is_store_class c ≡ false → with_store (by_cause range e o why).access value ram ≡ ram
attempt_kept range c e o what None value ram is fit no_store =
    let P : Reach → Type 0 = λ w. Fits c w in
    reach_kept range c e o o.reach value ram (subst P (sym is) fit) no_store
attempt_kept range c e o reach.Nothing (Some why) value ram is fit no_store = rw is refl
attempt_kept range c e o (reach.Load target width signed) (Some why) value ram is fit no_store = rw is refl
attempt_kept range c e o (reach.Store target width stored) (Some why) value ram is fit no_store = rw is refl

pub executed_kept : (range : RamRange) (found : Found) (addr x y : ℕ) (e : Seen) (value : ℕ) (ram : ℕ → ℕ) → is_store_class (class_in found) ≡ false →
    with_store (executed range found addr x y e).access value ram ≡ ram
unfolding executed
executed_kept range (refused cause) addr x y e value ram no_store = refl
executed_kept range (unknown word) addr x y e value ram no_store = refl
executed_kept range (known word i) addr x y e value ram no_store =
    let o : Outcome = eval_of i addr x y in
    if_kept (is_csr_insn i) _ _ value ram (csr_kept word i addr e.time (csr_read e i x) value ram)
    (if_kept (is_mret_insn i) _ _ value ram refl (attempt_kept range (class_of i) e o o.reach o.cause value ram refl (fits i addr x y) no_store))
