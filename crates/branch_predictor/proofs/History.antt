-- The number of the history is kept by a shift, a sum and a remainder.
use Rattle.std.proofs.Common.{◌≡◌, ℕ, zero, suc, ◌+◌, ◌*◌, ◌%◌, ◌^◌, ◌/◌, ◌<◌, ◌≤◌, arith, lit<, refl, ap, sym, ◌∙◌, add-one, Bool, List, [], ◌∷◌, if◌then◌else◌}
use Rattle.std.proofs.Math.Nat.{pow-le-pow_right}
use Rattle.std.proofs.lemmas.Nat.{pow_pos, mod-pow-add, one_shl}
use Rattle.branch_predictor.specs.Predictor.{history_number}

abbrev bit : Bool → ℕ
bit taken = if taken then 1 else 0

-- a bit below a number stays apart from the number's remainder
bit_below : (taken : Bool) (x bits : ℕ) → (bit taken + 2 * x) % 2 ^ suc bits ≡ bit taken + 2 * (x % 2 ^ bits)
bit_below taken x bits =
    let bound : bit taken ≤ 1 = grind arith in
    let half : (bit taken + 2 * x) / 2 ≡ x = omega arith in
    let cut : (bit taken + 2 * x) % 2 ^ (bits + 1) ≡ ((bit taken + 2 * x) / 2 ^ 1 % 2 ^ bits) * 2 ^ 1 + (bit taken + 2 * x) % 2 ^ 1 =
    mod-pow-add (bit taken + 2 * x) bits 1 in
    ap (λ n. (bit taken + 2 * x) % 2 ^ n) (sym (add-one bits)) ∙ cut ∙ rw half (omega arith)

-- the number of one bit less is what a remainder leaves of it
history_number-mod : (bits : ℕ) (outcomes : List Bool) → history_number (suc bits) outcomes % 2 ^ bits ≡ history_number bits outcomes
history_number-mod zero outcomes = omega arith
history_number-mod (suc bits) [] = omega (arith, pow_pos (suc bits))
history_number-mod (suc bits) (taken ∷ older) =
    bit_below taken (history_number (suc bits) older) bits ∙ ap (λ n. bit taken + 2 * n) (history_number-mod bits older)

-- no outcome
pub history_number-none : (bits : ℕ) → history_number bits [] ≡ 0
history_number-none zero = refl
history_number-none (suc bits) = refl

-- one more outcome
pub history_number-next : (bits : ℕ) (taken : Bool) (older : List Bool) → history_number bits (taken ∷ older) ≡ (history_number bits older * 2 + bit taken) % 2 ^ bits
history_number-next zero taken older = omega arith
history_number-next (suc bits) taken older =
    let swapped : history_number (suc bits) older * 2 + bit taken ≡ bit taken + 2 * history_number (suc bits) older = omega arith in
    rw swapped (sym (bit_below taken (history_number (suc bits) older) bits ∙ ap (λ n. bit taken + 2 * n) (history_number-mod bits older)))

-- a history has at most 16 bits
pub power_within : (bits : ℕ) → bits ≤ 16 → (2 ^ bits ≤ 65536) × (0 < 2 ^ bits) × (1 * 2 ^ bits % 4294967296 ≡ 2 ^ bits)
power_within bits few = (pow-le-pow_right (lit< tt) few, pow_pos bits, one_shl bits 32 (omega arith))
