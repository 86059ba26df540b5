-- What execution changes: a register, the bytes of a store, and no more.
use Rattle.std.proofs.Common.{◌≡◌, ℕ, zero, suc, ◌+◌, ◌-◌, ◌/◌, ◌%◌, ◌^◌, ◌≤◌, ◌<◌, ◌⊎◌, ⊎_elim, nat_le, nat_lt, ◌==◌, ◌&&◌, if◌then◌else◌, Bool, true, false, is_none, Option, Some, None, refl, ap, sym, ◌∙◌, arith, inl, inr}
use Rattle.std.proofs.lemmas.Bool.{cases_lt, cond-true, eqb-true, eq-eqb, lt-ltb, le-ltb, le-leb, lt-leb}
use Rattle.std.proofs.Math.Nat.{div-div-eq-div-mul, div-one, pow-succ'}
use Rattle.fsim_base.specs.Memory.{put_byte, put_bytes}
use Rattle.fsim_base.specs.Width.{width_bytes}
use Rattle.fsim_base.specs.declared.access.Access.{Access}
use Rattle.fsim_base.specs.declared.access.Access.TheVariants as access
use Rattle.fsim_base.specs.declared.access.Spot.TheVariants.{Ram, Device, Nowhere}
use Rattle.fsim_base.specs.declared.cause.Cause.{Cause}
use Rattle.mono_model.specs.Arch.{Arch, with_register, trapped}
use Rattle.mono_model.specs.Found.{Found, destination_in}
use Rattle.mono_model.specs.Result.{Result}
use Rattle.mono_model.specs.Effect.{effect, effect_by, retired, with_store}
use Rattle.mono_model.specs.Window.{is_register, covers, first_address, result_covers, stored_byte}

-- a byte that a store covers, and one that it doesn't
abbrev pub is_covered : ℕ → ℕ → ℕ → Bool
is_covered count addr x = nat_le addr x && nat_lt x (addr + count)

put_outside : (count addr value : ℕ) (ram : ℕ → ℕ) (x : ℕ) → (x < addr) ⊎ (addr + count ≤ x) → put_bytes count addr value ram x ≡ ram x
put_outside zero addr value ram x out = refl
put_outside (suc count) addr value ram x out =
    put_outside count (addr + 1) (value / 256) (put_byte addr (value % 256) ram) x (⊎_elim (λ low. inl (omega arith)) (λ high. inr (omega arith)) out)
    ∙ by_test (x == addr) refl
  where
    by_test : (b : Bool) → (x == addr) ≡ b → (if b then value % 256 else ram x) ≡ ram x
    by_test true is = let e : x ≡ addr = eqb-true x addr is in absurd (elim out [ inl low ↦ omega arith | inr high ↦ omega arith ])
    by_test false is = refl

put_inside : (count addr value : ℕ) (ram : ℕ → ℕ) (x : ℕ) → addr ≤ x → x < addr + count → put_bytes count addr value ram x ≡ value / 256 ^ (x - addr) % 256
put_inside zero addr value ram x from under = absurd (omega arith)
put_inside (suc count) addr value ram x from under = elim (cases_lt addr x) [
  | inl later ↦
      let e : x - addr ≡ suc (x - (addr + 1)) = omega arith in
      put_inside count (addr + 1) (value / 256) (put_byte addr (value % 256) ram) x (omega arith) (omega arith)
      ∙ ap (λ (k : ℕ). k % 256) (div-div-eq-div-mul value 256 (256 ^ (x - (addr + 1))))
      ∙ ap (λ (k : ℕ). value / k % 256) (sym (pow-succ' 256 (x - (addr + 1))))
      ∙ ap (λ (k : ℕ). value / 256 ^ k % 256) (sym e)
  | inr here ↦
      let e : x - addr ≡ zero = omega arith in
      put_outside count (addr + 1) (value / 256) (put_byte addr (value % 256) ram) x (inl (omega arith))
      ∙ cond-true (x == addr) (value % 256) (ram x) (eq-eqb x addr (omega arith))
      ∙ ap (λ (k : ℕ). k % 256) (sym (div-one value))
      ∙ ap (λ (k : ℕ). value / 256 ^ k % 256) (sym e)
]

-- memory with a store made
put_at : (count addr value : ℕ) (ram : ℕ → ℕ) (x : ℕ) →
    put_bytes count addr value ram x ≡ (if is_covered count addr x then value / 256 ^ (x - addr) % 256 else ram x)
put_at count addr value ram x = elim (cases_lt x addr) [
  | inl under ↦
      put_outside count addr value ram x (inl under)
      ∙ sym (ap (λ (b : Bool). if b && nat_lt x (addr + count) then value / 256 ^ (x - addr) % 256 else ram x) (lt-leb addr x under))
  | inr from ↦ elim (cases_lt x (addr + count)) [
    | inl inside ↦
        put_inside count addr value ram x from inside
        ∙ sym (ap (λ (b : Bool). if b && nat_lt x (addr + count) then value / 256 ^ (x - addr) % 256 else ram x) (le-leb addr x from)
        ∙ ap (λ (b : Bool). if b then value / 256 ^ (x - addr) % 256 else ram x) (lt-ltb x (addr + count) inside))
    | inr above ↦
        put_outside count addr value ram x (inr above)
        ∙ sym (ap (λ (b : Bool). if b && nat_lt x (addr + count) then value / 256 ^ (x - addr) % 256 else ram x) (le-leb addr x from)
        ∙ ap (λ (b : Bool). if b then value / 256 ^ (x - addr) % 256 else ram x) (le-ltb x (addr + count) above))
  ]
]

store_at : (made : Access) (value : ℕ) (ram : ℕ → ℕ) (x : ℕ) →
    with_store made value ram x ≡ (if covers made x then value / 256 ^ (x - first_address made) % 256 else ram x)
store_at access.Nothing value ram x = refl
store_at (access.Load addr width spot) value ram x = refl
store_at (access.Store addr width Ram) value ram x = put_at (width_bytes width) addr value ram x
store_at (access.Store addr width Device) value ram x = refl
store_at (access.Store addr width Nowhere) value ram x = refl

-- a byte of RAM behind an instruction
effect_ram : (cause : Option Cause) (found : Found) (r : Result) (time : Option ℕ) (addr : ℕ) (a : Arch) (x : ℕ) →
    (effect_by cause found r time addr a).ram x ≡ (if is_none cause && covers r.access x then stored_byte r x else a.ram x)
unfolding retired trapped
effect_ram None found r time addr a x = store_at r.access r.value a.ram x
effect_ram (Some cause) found r time addr a x = refl

pub behind_ram : (found : Found) (r : Result) (time : Option ℕ) (addr : ℕ) (a : Arch) (x : ℕ) →
    (effect found r time addr a).ram x ≡ (if result_covers r x then stored_byte r x else a.ram x)
unfolding effect
behind_ram found r time addr a x = effect_ram r.cause found r time addr a x

-- memory behind an instruction whose access is no store
effect_ram_kept : (cause : Option Cause) (found : Found) (r : Result) (time : Option ℕ) (addr : ℕ) (a : Arch) →
    with_store r.access r.value a.ram ≡ a.ram → (effect_by cause found r time addr a).ram ≡ a.ram
unfolding retired trapped
effect_ram_kept None found r time addr a kept = kept
effect_ram_kept (Some cause) found r time addr a kept = refl

pub behind_ram_kept : (found : Found) (r : Result) (time : Option ℕ) (addr : ℕ) (a : Arch) →
    with_store r.access r.value a.ram ≡ a.ram → (effect found r time addr a).ram ≡ a.ram
unfolding effect
behind_ram_kept found r time addr a kept = effect_ram_kept r.cause found r time addr a kept

-- a register behind an instruction that doesn't write it, and behind one that does
register_kept : (destination : Option ℕ) (value : ℕ) (regs : ℕ → ℕ) (register : ℕ) → is_register register destination ≡ false →
    with_register destination value regs register ≡ regs register
register_kept None value regs register other = refl
register_kept (Some d) value regs register other = by_test (register == d) refl
  where
    by_test : (b : Bool) → (register == d) ≡ b → (if b then value else regs register) ≡ regs register
    by_test true is =
        let e : register ≡ d = eqb-true register d is in
        let same : (d == register) ≡ true = eq-eqb d register (omega arith) in
        cc
    by_test false is = refl

register_written : (destination : Option ℕ) (value : ℕ) (regs : ℕ → ℕ) (register : ℕ) → is_register register destination ≡ true →
    with_register destination value regs register ≡ value
register_written None value regs register is = cc
register_written (Some d) value regs register is =
    let e : d ≡ register = eqb-true d register is in
    cond-true (register == d) value (regs register) (eq-eqb register d (omega arith))

effect_kept : (cause : Option Cause) (found : Found) (r : Result) (time : Option ℕ) (addr : ℕ) (a : Arch) (register : ℕ) →
    is_register register (destination_in found) ≡ false → (effect_by cause found r time addr a).regs register ≡ a.regs register
unfolding retired trapped
effect_kept None found r time addr a register other = register_kept (destination_in found) r.value a.regs register other
effect_kept (Some cause) found r time addr a register other = refl

pub behind_kept : (found : Found) (r : Result) (time : Option ℕ) (addr : ℕ) (a : Arch) (register : ℕ) →
    is_register register (destination_in found) ≡ false → (effect found r time addr a).regs register ≡ a.regs register
unfolding effect
behind_kept found r time addr a register other = effect_kept r.cause found r time addr a register other

effect_written : (cause : Option Cause) (found : Found) (r : Result) (time : Option ℕ) (addr : ℕ) (a : Arch) (register : ℕ) →
    is_register register (destination_in found) ≡ true → is_none cause ≡ true → (effect_by cause found r time addr a).regs register ≡ r.value
unfolding retired trapped
effect_written None found r time addr a register is none = register_written (destination_in found) r.value a.regs register is
effect_written (Some cause) found r time addr a register is none = cc

pub behind_written : (found : Found) (r : Result) (time : Option ℕ) (addr : ℕ) (a : Arch) (register : ℕ) →
    is_register register (destination_in found) ≡ true → is_none r.cause ≡ true → (effect found r time addr a).regs register ≡ r.value
unfolding effect
behind_written found r time addr a register is none = effect_written r.cause found r time addr a register is none

-- the address behind an instruction without a cause
effect_next : (cause : Option Cause) (found : Found) (r : Result) (time : Option ℕ) (addr : ℕ) (a : Arch) → is_none cause ≡ true →
    (effect_by cause found r time addr a).pc ≡ r.next
unfolding retired
effect_next None found r time addr a none = refl
effect_next (Some cause) found r time addr a none = cc

pub behind_next : (found : Found) (r : Result) (time : Option ℕ) (addr : ℕ) (a : Arch) → is_none r.cause ≡ true → (effect found r time addr a).pc ≡ r.next
unfolding effect
behind_next found r time addr a none = effect_next r.cause found r time addr a none
