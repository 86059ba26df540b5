-- What digits write, digit by digit.
use Rattle.std.proofs.Common.{◌≡◌, ℕ, ◌+◌, ◌*◌, ◌^◌, ◌<◌, ◌≤◌, ◌&&◌, true, List, [], ◌∷◌, length, take, get_or, Some, None, if◌then◌else◌, refl, ap, sym, ◌∙◌, arith, subst}
use Rattle.std.proofs.lemmas.Grind.{common_steps}
use Rattle.std.proofs.lemmas.Int.Digits.{digits_value-lt, digits_value_more, digits_more}
use Rattle.std.proofs.lemmas.List.{length-take}
use Rattle.std.proofs.Math.Nat.{pow-le-pow_left, pow-le-pow_right, mul-le-mul_left}
use Rattle.std.specs.Char.{digit_value, is_digit}
use Rattle.std.specs.List.{list_all}
use Rattle.std.specs.Str.Parse.{AllDigits, digits_value}
use Rattle.back_debug.specs.Script.{value_in}

-- what twenty digits of a base of at most 16 write, and one digit more
below : (radix : ℕ) (word : List ℕ) → radix ≤ 16 → length word ≤ 20 → AllDigits radix word → digits_value radix word < 2 ^ 80
below radix word most len digits =
    let short : digits_value radix word < radix ^ length word = digits_value-lt radix word digits in
    let wider : radix ^ length word ≤ 16 ^ length word = pow-le-pow_left most (length word) in
    let longer : 16 ^ length word ≤ 16 ^ 20 = pow-le-pow_right (omega arith) len in
    let power : 16 ^ 20 ≡ 2 ^ 80 = refl in
    omega (arith, short, wider, longer, power)

pub one_more : (radix value i : ℕ) (word : List ℕ) → radix ≤ 16 → length word ≤ 20 → value ≡ digits_value radix (take i word) → AllDigits radix (take i word) → value * radix < 2 ^ 84
one_more radix value i word most len is digits =
    let front : length (take i word) ≤ 20 = grind (arith, length-take i word, len) in
    let small : value < 2 ^ 80 = subst (λ (n : ℕ). n < 2 ^ 80) (sym is) (below radix (take i word) most front digits) in
    let scaled : value * radix ≤ value * 16 = mul-le-mul_left value most in
    omega (arith, small, scaled)

all_digits : (radix : ℕ) (word : List ℕ) → AllDigits radix word → list_all (λ byte. is_digit byte radix) word ≡ true
all_digits radix [] digits = refl
all_digits radix (byte ∷ word) digits =
    let first : is_digit byte radix ≡ true = grind (arith, common_steps, digits.0) in
    ap (λ b. b && list_all (λ c. is_digit c radix) word) first ∙ all_digits radix word digits.1

-- the value of a word whose bytes all are digits
pub value-some : (radix : ℕ) (word : List ℕ) → AllDigits radix word → Some (digits_value radix word) ≡ value_in radix word
value-some radix word digits = sym (ap (λ b. if b then Some (digits_value radix word) else None) (all_digits radix word digits))

-- one byte more
pub more_value : (radix value i digit code : ℕ) (word : List ℕ) → i < length word → value ≡ digits_value radix (take i word) → code ≡ get_or word i 0 → digit ≡ digit_value code → value * radix + digit ≡ digits_value radix (take (i + 1) word)
more_value radix value i digit code word within is at told =
    ap (λ (v : ℕ). v * radix + digit) is ∙ ap (λ (d : ℕ). digits_value radix (take i word) * radix + d) (told ∙ ap digit_value at)
    ∙ sym (digits_value_more radix word i within)

pub more_digits : (radix i code : ℕ) (word : List ℕ) → i < length word → AllDigits radix (take i word) → code ≡ get_or word i 0 → digit_value code < radix → AllDigits radix (take (i + 1) word)
more_digits radix i code word within digits at told =
    digits_more radix word i within digits (subst (λ (b : ℕ). digit_value b < radix) at told)
