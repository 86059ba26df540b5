-- What reads the time issues only as the oldest record: RAM doesn't reach down to the timer.
use Rattle.std.proofs.Common.{◌≡◌, ℕ, ◌≤◌, nat_le, ◌==◌, ◌||◌, Bool, true, false, if◌then◌else◌, Option, Some, None, List, refl, sym, subst, inl, inr, arith}
use Rattle.std.proofs.lemmas.Bool.{eqb-true, lt-leb}
use Rattle.fsim_base.specs.Number.{wrap_sum}
use Rattle.fsim_base.specs.Width.{is_aligned}
use Rattle.fsim_base.specs.declared.access.Access.{Access}
use Rattle.fsim_base.specs.declared.access.Access.TheVariants as access
use Rattle.fsim_base.specs.declared.access.Spot.{Spot}
use Rattle.fsim_base.specs.declared.access.Spot.TheVariants.{Device, Nowhere}
use Rattle.fsim_base.specs.declared.access.Width.{Width}
use Rattle.fsim_base.specs.declared.access.Width.TheVariants.{Byte, Half, Word}
use Rattle.fsim_base.specs.declared.access.RamRange.{RamRange}
use Rattle.fsim_base.specs.declared.cause.Cause.{Cause}
use Rattle.fsim_base.specs.declared.cause.Cause.TheVariants.{LoadMisaligned}
use Rattle.fsim_base.specs.declared.instruction.Class.{Class}
use Rattle.rv_decode.specs.declared.insn.Insn.{Insn}
use Rattle.rv_decode.specs.declared.insn.Insn.TheVariants as insn
use Rattle.rv_decode.specs.Class.{class_of}
use Rattle.machine_csr.specs.declared.csrs.CsrWrite.{CsrWrite}
use Rattle.machine_csr.specs.Csr.{reads_time_of}
use Rattle.device_bus.specs.Bus.{find_of}
use Rattle.device_bus.specs.Range.{accepts_of}
use Rattle.rv_exec.specs.declared.outcome.Outcome.{Outcome}
use Rattle.rv_exec.specs.declared.outcome.Reach.{Reach}
use Rattle.rv_exec.specs.declared.outcome.Reach.TheVariants as reach
use Rattle.rv_exec.specs.Branch.{branch_taken}
use Rattle.rv_exec.specs.Eval.{eval_of, branched, misalignment}
use Rattle.mono_model.specs.Found.{Found, refused, unknown, known, class_in, is_csr_insn}
use Rattle.mono_model.specs.Result.{Result, Seen, executed, by_cause, reached, csr_result, loaded_raw, raw_at, stored_at, spot_of, can_store, is_time_address, is_time_load, is_time_read}
use Rattle.mono_model.specs.Window.{Record}
use Rattle.mono_model.specs.Issue.{is_oldest, load_allows, class_allows}
use Rattle.machine_laws.proofs.Executed.{Fits, fits, by_kind}

-- the time's two words lie in the timer
module _ (range : RamRange) (above : 0x20000000 ≤ range.base) where
  low_spot : spot_of range 0x0200bff8 Word ≡ Device
  unfolding find_of accepts_of
  low_spot =
      let under : nat_le range.base 0x0200bff8 ≡ false = lt-leb range.base 0x0200bff8 (omega arith) in
      rw under refl

  high_spot : spot_of range 0x0200bffc Word ≡ Device
  unfolding find_of accepts_of
  high_spot =
      let under : nat_le range.base 0x0200bffc ≡ false = lt-leb range.base 0x0200bffc (omega arith) in
      rw under refl

  time_spot : (addr : ℕ) → is_time_address addr ≡ true → spot_of range addr Word ≡ Device
  time_spot addr is = by_test (addr == 0x0200bff8) refl is
    where
      by_test : (b : Bool) → (addr == 0x0200bff8) ≡ b → (b || addr == 0x0200bffc) ≡ true → spot_of range addr Word ≡ Device
      by_test true low is = let P : ℕ → Type 0 = λ x. spot_of range x Word ≡ Device in subst P (sym (eqb-true addr 0x0200bff8 low)) low_spot
      by_test false low is = let P : ℕ → Type 0 = λ x. spot_of range x Word ≡ Device in subst P (sym (eqb-true addr 0x0200bffc is)) high_spot

-- and are aligned
time_aligned : (addr : ℕ) → is_time_address addr ≡ true → is_aligned addr Word ≡ true
time_aligned addr is = by_test (addr == 0x0200bff8) refl is
  where
    by_test : (b : Bool) → (addr == 0x0200bff8) ≡ b → (b || addr == 0x0200bffc) ≡ true → is_aligned addr Word ≡ true
    by_test true low is = let P : ℕ → Type 0 = λ x. is_aligned x Word ≡ true in subst P (sym (eqb-true addr 0x0200bff8 low)) refl
    by_test false low is = let P : ℕ → Type 0 = λ x. is_aligned x Word ≡ true in subst P (sym (eqb-true addr 0x0200bffc is)) refl

-- a load has a cause exactly where it is misaligned
abbrev Aligns : Option (Cause × ℕ) → Reach → Type 0
Aligns why reach.Nothing = Unit {0}
Aligns why (reach.Load addr width signed) = why ≡ misalignment LoadMisaligned addr width
Aligns why (reach.Store addr width value) = Unit {0}

branch_aligns : (taken : Bool) (addr target : ℕ) → Aligns (branched addr taken target).cause (branched addr taken target).reach
branch_aligns true addr target = tt
branch_aligns false addr target = tt

aligns : (i : Insn) (addr x y : ℕ) → Aligns (eval_of i addr x y).cause (eval_of i addr x y).reach
unfolding eval_of
aligns (insn.Lui rd imm) addr x y = tt
aligns (insn.Auipc rd imm) addr x y = tt
aligns (insn.Jal rd imm) addr x y = tt
aligns (insn.Jalr rd rs1 imm) addr x y = tt
aligns (insn.Branch kind rs1 rs2 imm) addr x y = branch_aligns (branch_taken kind x y) addr (wrap_sum addr imm)
aligns (insn.Load kind rd rs1 imm) addr x y = refl
aligns (insn.Store kind rs1 rs2 imm) addr x y = tt
aligns (insn.OpImm kind alt rd rs1 imm) addr x y = tt
aligns (insn.Op kind alt rd rs1 rs2) addr x y = tt
aligns (insn.MulDiv kind rd rs1 rs2) addr x y = tt
aligns insn.Ecall addr x y = tt
aligns insn.Ebreak addr x y = tt
aligns (insn.Fence rd rs1 upper fetch) addr x y = tt
aligns insn.Wfi addr x y = tt
aligns insn.Mret addr x y = tt
aligns (insn.Csr kind rd rs1 csr) addr x y = tt

-- the access of a result, by what the instruction reaches for
either_access : (b : Bool) (r t : Result) (made : Access) → r.access ≡ made → t.access ≡ made → (if◌then◌else◌ {A = Result} b r t).access ≡ made
either_access true r t made first second = first
either_access false r t made first second = second

pub csr_accesses : (word : ℕ) (i : Insn) (addr : ℕ) (time : Option ℕ) (done : Option (ℕ × CsrWrite)) → (csr_result word i addr time done).access ≡ access.Nothing
csr_accesses word i addr time None = refl
csr_accesses word i addr time (Some done) = refl

pub load_accesses : (next addr : ℕ) (width : Width) (signed : Bool) (spot : Spot) (raw : Option ℕ) → (loaded_raw next addr width signed spot raw).access ≡ access.Load addr width spot
load_accesses next addr width signed spot None = refl
load_accesses next addr width signed spot (Some raw) = refl

store_accesses : (next addr : ℕ) (width : Width) (value : ℕ) (spot : Spot) → (stored_at next addr width value spot).access ≡ access.Store addr width spot
store_accesses next addr width value spot = either_access (can_store addr width spot) _ _ (access.Store addr width spot) refl refl

-- a load of the time is one of a device
module _ (range : RamRange) (above : 0x20000000 ≤ range.base) (older : List Record) where
  device_load : (addr : ℕ) (width : Width) → is_time_load (access.Load addr width (spot_of range addr width)) ≡ true →
      load_allows (access.Load addr width (spot_of range addr width)) older ≡ true → is_oldest older ≡ true
  device_load addr Byte reads allows = cc
  device_load addr Half reads allows = cc
  device_load addr Word reads allows =
      let P : Spot → Type 0 = λ spot. load_allows (access.Load addr Word spot) older ≡ true in
      subst P (time_spot range above addr reads) allows

  reached_load : (c : Class) (e : Seen) (o : Outcome) (what : Reach) → Fits c what →
      is_time_load (reached range e o what).access ≡ true → class_allows c (reached range e o what).access older ≡ true → is_oldest older ≡ true
  reached_load c e o reach.Nothing fit reads allows = cc
  reached_load c e o (reach.Load target width signed) fit reads allows =
      let made = load_accesses o.next target width signed (spot_of range target width) (raw_at e target width (spot_of range target width)) in
      let P : Access → Type 0 = λ a. is_time_load a ≡ true in
      let Q : Access → Type 0 = λ a. class_allows c a older ≡ true in
      let R : Class → Type 0 = λ k. class_allows k (access.Load target width (spot_of range target width)) older ≡ true in
      device_load target width (subst P made reads) (subst R fit (subst Q made allows))
  reached_load c e o (reach.Store target width value) fit reads allows =
      let P : Access → Type 0 = λ a. is_time_load a ≡ true in
      let no : false ≡ true = subst P (store_accesses o.next target width value (spot_of range target width)) reads in
      cc

  -- an aligned load has no cause of evaluation
  misaligned_load : (target : ℕ) (width : Width) (why : Cause × ℕ) → Some why ≡ misalignment LoadMisaligned target width → is_time_load (access.Load target width Nowhere) ≡ true → is_oldest older ≡ true
  misaligned_load target Byte why is reads = cc
  misaligned_load target Half why is reads = cc
  misaligned_load target Word why is reads =
      let P : Bool → Type 0 = λ b. Some why ≡ (if b then None else Some (LoadMisaligned, target)) in
      let no : Some why ≡ None = subst P (time_aligned target reads) is in
      cc

  caused_load : (c : Class) (e : Seen) (o : Outcome) (what : Reach) (why : Option (Cause × ℕ)) → o.reach ≡ what → Fits c what → Aligns why what →
      is_time_load (by_cause range e o why).access ≡ true → class_allows c (by_cause range e o why).access older ≡ true → is_oldest older ≡ true
  caused_load c e o what None is fit align reads allows =
      let P : Reach → Type 0 = λ w. Fits c w in
      reached_load c e o o.reach (subst P (sym is) fit) reads allows
  caused_load c e o reach.Nothing (Some why) is fit align reads allows = let no = rw is at reads in cc
  caused_load c e o (reach.Load target width signed) (Some why) is fit align reads allows = misaligned_load target width why align (rw is at reads)
  caused_load c e o (reach.Store target width value) (Some why) is fit align reads allows = let no = rw is at reads in cc

  -- only a CSR instruction reads the time of itself
  no_time : (i : Insn) → is_csr_insn i ≡ false → reads_time_of i ≡ false
  unfolding reads_time_of
  no_time (insn.Csr kind rd rs1 csr) other = cc
  no_time i other = refl

  -- what reads the time and may issue is the oldest
  pub time_read_oldest : (found : Found) (addr x y : ℕ) (e : Seen) → is_time_read found (executed range found addr x y e).access ≡ true →
      class_allows (class_in found) (executed range found addr x y e).access older ≡ true → is_oldest older ≡ true
  unfolding executed
  time_read_oldest (refused cause) addr x y e reads allows = cc
  time_read_oldest (unknown word) addr x y e reads allows = cc
  time_read_oldest (known word i) addr x y e reads allows = elim (by_kind i) [
    | inl serial ↦
        let P : Class → Type 0 = λ c. class_allows c (executed range (known word i) addr x y e).access older ≡ true in
        subst P serial allows
    | inr (csr, mret) ↦
        let o : Outcome = eval_of i addr x y in
        let no : reads_time_of i ≡ false = no_time i csr in
        caused_load (class_of i) e o o.reach o.cause refl (fits i addr x y) (aligns i addr x y) (rw (no, csr, mret) at reads) (rw (csr, mret) at allows)
  ]
