-- Four marks at once.
use Rattle.std.proofs.Common.{◌≡◌, ℕ, zero, suc, ◌+◌, ◌*◌, ◌/◌, ◌%◌, ◌^◌, ◌<◌, true, false, ◌&&◌, ◌⊎◌, ◌||◌, List, replicate, length, set, slice_index, nat_eq, refl, ap, sym, ◌∙◌, arith, bit_and, bit_or, inl, inr, ⊎_elim}
use Rattle.std.specs.Prelude.{◌==◌}
use Rattle.std.specs.Int.{bit_at, w8}
use Rattle.std.proofs.lemmas.Nat.Bits.{bit_at_set_same, bit_at_set_other, bit_at-zero}
use Rattle.std.proofs.lemmas.List.{get_or-set_same, get_or-set_other}
use Rattle.std.proofs.Math.Bool.{or-false}
use Rattle.std.proofs.Math.Nat.{div-one}
use Rattle.std.proofs.lemmas.Nat.{and_mask}
use Rattle.std.proofs.lemmas.Bool.{cases_eq}
use Rattle.std.proofs.lemmas.Bool.Decides.{nat_tests}
use Rattle.phys_mem.specs.PageBytes.{is_marked}
use Rattle.phys_mem.specs.Fetch.{all_four}

-- the low four bits are all set
four_bits : (n : ℕ) → (n % 16 == 15) ≡ ((n % 2 == 1) && (n / 2 % 2 == 1) && (n / 4 % 2 == 1) && (n / 8 % 2 == 1))
four_bits n = grind (arith, nat_tests)

-- the low half of a byte, and the high half
low_bits : (n : ℕ) → nat_eq (bit_and (n / 1) 15) 15 ≡ ((n / 1 % 2 == 1) && (n / 2 % 2 == 1) && (n / 4 % 2 == 1) && (n / 8 % 2 == 1))
low_bits n = rw (div-one n, and_mask n 4) (four_bits n)

high_bits : (n : ℕ) → nat_eq (bit_and (n / 16) 15) 15 ≡ ((n / 16 % 2 == 1) && (n / 32 % 2 == 1) && (n / 64 % 2 == 1) && (n / 128 % 2 == 1))
high_bits n =
    let second : n / 32 ≡ n / 16 / 2 = omega arith in
    let third : n / 64 ≡ n / 16 / 4 = omega arith in
    let fourth : n / 128 ≡ n / 16 / 8 = omega arith in
    rw (second, third, fourth, and_mask (n / 16) 4) (four_bits (n / 16))

-- four aligned marks
pub four_marks : (marks : List ℕ) (offset : ℕ) → offset % 4 ≡ 0
    → nat_eq (bit_and (slice_index marks (offset / 8) / 2 ^ (offset % 8)) 15) 15 ≡ all_four (is_marked marks) offset
four_marks marks offset aligned =
    let byte1 : (offset + 1) / 8 ≡ offset / 8 = omega arith in
    let byte2 : (offset + 2) / 8 ≡ offset / 8 = omega arith in
    let byte3 : (offset + 3) / 8 ≡ offset / 8 = omega arith in
    ⊎_elim
    (λ low. let bit0 : 2 ^ (offset % 8) ≡ 1 = ap (λ k. 2 ^ k) low in
    let bit1 : (offset + 1) % 8 ≡ 1 = omega arith in
    let bit2 : (offset + 2) % 8 ≡ 2 = omega arith in
    let bit3 : (offset + 3) % 8 ≡ 3 = omega arith in
    rw (byte1, byte2, byte3, bit1, bit2, bit3, bit0) (low_bits (slice_index marks (offset / 8))))
    (λ high. let bit0 : 2 ^ (offset % 8) ≡ 16 = ap (λ k. 2 ^ k) high in
    let bit1 : (offset + 1) % 8 ≡ 5 = omega arith in
    let bit2 : (offset + 2) % 8 ≡ 6 = omega arith in
    let bit3 : (offset + 3) % 8 ≡ 7 = omega arith in
    rw (byte1, byte2, byte3, bit1, bit2, bit3, bit0) (high_bits (slice_index marks (offset / 8))))
    (halves offset aligned)
  where
    halves : (offset : ℕ) → offset % 4 ≡ 0 → (offset % 8 ≡ 0) ⊎ (offset % 8 ≡ 4)
    halves offset aligned = ⊎_elim (λ low. inl low) (λ other. inr (omega arith)) (cases_eq (offset % 8) 0)

-- a byte with one bit set
pub is_marked-set : (marks : List ℕ) (offset : ℕ) → offset / 8 < length marks
    → is_marked (set marks (offset / 8) (bit_or (slice_index marks (offset / 8)) (1 * 2 ^ (offset % 8) % 256))) ≡ (λ o. o == offset || is_marked marks o)
is_marked-set marks offset within = λ i o. at o i
  where
    place : ℕ
    place = offset / 8

    byte : ℕ
    byte = slice_index marks place

    new : ℕ
    new = bit_or byte (1 * 2 ^ (offset % 8) % 256)

    same : (o : ℕ) → o / 8 ≡ place → is_marked (set marks place new) o ≡ (o == offset || is_marked marks o)
    same o here =
        ⊎_elim
        (λ bit. let eq : (o == offset) ≡ true = grind (arith, nat_tests) in
        (λ i. bit_at (slice_index (set marks place new) (here i)) (bit i) == 1) ∙ ap (λ b. bit_at b (offset % 8) == 1) (get_or-set_same marks place new 0 within)
        ∙ ap (λ k. k == 1) (bit_at_set_same w8 byte (offset % 8) (omega arith)) ∙ sym (ap (λ b. b || is_marked marks o) eq))
        (λ other. let ne : (o == offset) ≡ false = grind (arith, nat_tests) in
        (λ i. bit_at (slice_index (set marks place new) (here i)) (o % 8) == 1) ∙ ap (λ b. bit_at b (o % 8) == 1) (get_or-set_same marks place new 0 within)
        ∙ ap (λ k. k == 1) (bit_at_set_other w8 byte (offset % 8) (omega arith) (o % 8) other) ∙ (λ i. bit_at (slice_index marks (sym here i)) (o % 8) == 1)
        ∙ sym (ap (λ b. b || is_marked marks o) ne))
        (cases_eq (o % 8) (offset % 8))

    at : (o : ℕ) → is_marked (set marks place new) o ≡ (o == offset || is_marked marks o)
    at o =
        ⊎_elim
        (same o)
        (λ other. let ne : (o == offset) ≡ false = grind (arith, nat_tests) in
        ap (λ b. bit_at b (o % 8) == 1) (get_or-set_other marks place (o / 8) new 0 other) ∙ sym (ap (λ b. b || is_marked marks o) ne))
        (cases_eq (o / 8) place)

-- a list of zeros reads as zero, also past its end
pub zeros : (count i : ℕ) → slice_index (replicate count 0) i ≡ 0
zeros zero i = refl
zeros (suc count) zero = refl
zeros (suc count) (suc i) = zeros count i

-- no byte is marked at the start
unmarked : (count o : ℕ) → is_marked (replicate count 0) o ≡ false
unmarked count o = ap (λ b. bit_at b (o % 8) == 1) (zeros count (o / 8)) ∙ ap (λ b. b == 1) (bit_at-zero (o % 8))

-- so that one mark is the only one
pub only_mark : (marks : List ℕ) (count offset : ℕ) → is_marked marks ≡ (λ o. o == offset || is_marked (replicate count 0) o) → is_marked marks ≡ (λ o. o == offset)
only_mark marks count offset e =
    let alone : (o : ℕ) → (o == offset || is_marked (replicate count 0) o) ≡ (o == offset) = λ o. ap (λ b. o == offset || b) (unmarked count o) ∙ or-false (o == offset) in
    e ∙ (λ i o. alone o i)
