-- The lowest 1 of a word from a bit on.
use Rattle.std.proofs.Common.{◌≡◌, ℕ, ◌+◌, ◌-◌, ◌/◌, ◌%◌, ◌^◌, ◌<◌, ◌≤◌, ap, sym, ◌∙◌, arith, w64}
use Rattle.std.specs.Int.{bit_at, trailing_zeros}
use Rattle.std.proofs.lemmas.Nat.{shr-shr, shr_le}
use Rattle.std.proofs.lemmas.Nat.Bits.{bit_at-trailing_zeros, bit_at-zero}

-- a bit of what is left behind a shift
shifted_bit : (word from k : ℕ) → from ≤ k → bit_at word k ≡ bit_at (word / 2 ^ from) (k - from)
shifted_bit word from k behind =
    let e : k ≡ from + (k - from) = omega arith in
    ap (bit_at word) e ∙ ap (λ n. n % 2) (sym (shr-shr word from (k - from)))

pub record IsLowest (word from bit : ℕ) : Type 0 where
  pub behind : from ≤ bit
  pub found : bit_at word bit ≡ 1
  pub first : (k : ℕ) → from ≤ k → k < bit → bit_at word k ≡ 0

pub lowest_is : (word from : ℕ) → word < 2 ^ 64 → 0 < word / 2 ^ from → IsLowest word from (from + trailing_zeros w64 (word / 2 ^ from))
lowest_is word from fits some =
    let rest = word / 2 ^ from in
    let zeros = trailing_zeros w64 rest in
    let small : rest < 2 ^ 64 = omega (arith, fits, shr_le word from) in
    let is = bit_at-trailing_zeros w64 rest some small in
    let e : from + zeros - from ≡ zeros = omega arith in
    let found : bit_at word (from + zeros) ≡ 1 = shifted_bit word from (from + zeros) (omega arith) ∙ ap (bit_at rest) e ∙ is.1 in
    record {
      behind = omega arith;
      found = found;
      first = λ k behind before. shifted_bit word from k behind ∙ is.2 (k - from) (omega (arith, behind, before));
    }

pub none_behind : (word from : ℕ) → word / 2 ^ from ≡ 0 → (k : ℕ) → from ≤ k → bit_at word k ≡ 0
none_behind word from none k behind = shifted_bit word from k behind ∙ ap (λ n. bit_at n (k - from)) none ∙ bit_at-zero (k - from)
