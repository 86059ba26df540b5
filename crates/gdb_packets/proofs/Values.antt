-- What hexadecimal digits write, digit by digit.
use Rattle.std.proofs.Common.{◌≡◌, ℕ, ◌+◌, ◌*◌, ◌^◌, ◌<◌, ◌≤◌, ◌≢◌, ◌&&◌, nat_le, true, List, [], ◌∷◌, length, take, get_or, Some, refl, ap, sym, ◌∙◌, arith, subst}
use Rattle.std.proofs.lemmas.Grind.{common_steps}
use Rattle.std.proofs.lemmas.Int.Digits.{digits_value-lt, digits_value_more, digits_more}
use Rattle.std.proofs.lemmas.List.{length-take}
use Rattle.std.proofs.Math.Nat.{pow-le-pow_right}
use Rattle.std.specs.Char.{digit_value, is_digit}
use Rattle.std.specs.List.{list_all}
use Rattle.std.specs.Str.Parse.{AllDigits, digits_value}
use Rattle.gdb_packets.specs.Hexadecimal.{number_in}

-- what fewer than sixteen digits write, and one digit more
pub one_more : (value i : ℕ) (word : List ℕ) → i < length word → length word ≤ 16 → value ≡ digits_value 16 (take i word) → AllDigits 16 (take i word) → value * 16 + 15 < 2 ^ 64
one_more value i word within len is digits =
    let front : length (take i word) ≤ 15 = grind (arith, length-take i word, len, within) in
    let short : digits_value 16 (take i word) < 16 ^ length (take i word) = digits_value-lt 16 (take i word) digits in
    let longer : 16 ^ length (take i word) ≤ 16 ^ 15 = pow-le-pow_right (omega arith) front in
    let small : value < 16 ^ 15 = rw is (omega (arith, short, longer)) in
    let power : 16 ^ 15 * 16 ≡ 2 ^ 64 = refl in
    omega (arith, small, power)

all_digits : (word : List ℕ) → AllDigits 16 word → list_all (λ byte. is_digit byte 16) word ≡ true
all_digits [] digits = refl
all_digits (byte ∷ word) digits =
    let first : is_digit byte 16 ≡ true = grind (arith, common_steps, digits.0) in
    ap (λ b. b && list_all (λ c. is_digit c 16) word) first ∙ all_digits word digits.1

-- one byte more
pub more_value : (value i digit code : ℕ) (word : List ℕ) → i < length word → value ≡ digits_value 16 (take i word) → code ≡ get_or word i 0 → digit ≡ digit_value code → value * 16 + digit ≡ digits_value 16 (take (i + 1) word)
more_value value i digit code word within is at told =
    ap (λ (v : ℕ). v * 16 + digit) is ∙ ap (λ (d : ℕ). digits_value 16 (take i word) * 16 + d) (told ∙ ap digit_value at)
    ∙ sym (digits_value_more 16 word i within)

pub more_digits : (i code : ℕ) (word : List ℕ) → i < length word → AllDigits 16 (take i word) → code ≡ get_or word i 0 → digit_value code < 16 → AllDigits 16 (take (i + 1) word)
more_digits i code word within digits at told =
    digits_more 16 word i within digits (subst (λ (b : ℕ). digit_value b < 16) at told)

-- a word of some digits, at most sixteen
pub number-some : (word : List ℕ) → length word ≢ 0 → length word ≤ 16 → AllDigits 16 word → Some (digits_value 16 word) ≡ number_in word
number-some word some most digits =
    let first : nat_le 1 (length word) ≡ true = grind (arith, common_steps, some) in
    let second : nat_le (length word) 16 ≡ true = grind (arith, common_steps, most) in
    let third : list_all (λ byte. is_digit byte 16) word ≡ true = all_digits word digits in
    rw (first, second, third) refl
