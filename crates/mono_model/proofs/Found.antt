-- Which instruction it is, where a test says so.
use Rattle.std.proofs.Common.{◌≡◌, ℕ, Bool, true, refl, ap}
use Rattle.rv_decode.specs.declared.insn.Insn.{Insn}
use Rattle.rv_decode.specs.declared.insn.Insn.TheVariants as insn
use Rattle.mono_model.specs.Found.{Found, refused, unknown, known, is_csr_insn, is_mret_insn, is_fence_i_insn, is_fence_i}

pub record IsCsr (i : Insn) : Type 0 where
  pub kind : ℕ
  pub rd : ℕ
  pub rs1 : ℕ
  pub csr : ℕ
  pub is : i ≡ insn.Csr kind rd rs1 csr

pub csr_is : (i : Insn) → is_csr_insn i ≡ true → IsCsr i
csr_is (insn.Csr kind rd rs1 csr) is = record { kind = kind; rd = rd; rs1 = rs1; csr = csr; is = refl }
csr_is i is = cc

pub mret_is : (i : Insn) → is_mret_insn i ≡ true → i ≡ insn.Mret
mret_is insn.Mret is = refl
mret_is i is = cc

pub record IsFence (i : Insn) : Type 0 where
  pub rd : ℕ
  pub rs1 : ℕ
  pub upper : ℕ
  pub fetch : Bool
  pub is : i ≡ insn.Fence rd rs1 upper fetch

fence_insn_is : (i : Insn) → is_fence_i_insn i ≡ true → IsFence i
fence_insn_is (insn.Fence rd rs1 upper fetch) is = record { rd = rd; rs1 = rs1; upper = upper; fetch = fetch; is = refl }
fence_insn_is i is = cc

pub record IsFenceFound (found : Found) : Type 0 where
  pub word : ℕ
  pub rd : ℕ
  pub rs1 : ℕ
  pub upper : ℕ
  pub fetch : Bool
  pub is : found ≡ known word (insn.Fence rd rs1 upper fetch)

pub fence_i_is : (found : Found) → is_fence_i found ≡ true → IsFenceFound found
fence_i_is (refused cause) is = cc
fence_i_is (unknown word) is = cc
fence_i_is (known word i) is =
    let f = fence_insn_is i is in
    record { word = word; rd = f.rd; rs1 = f.rs1; upper = f.upper; fetch = f.fetch; is = ap (known word) f.is }
