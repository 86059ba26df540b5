-- Decimal digits, and the number that std reads in them.
use Rattle.std.proofs.Common.{◌≡◌, ◌∙◌, ◌<◌, ◌^◌, ℕ, Bool, true, false, List, [], ◌∷◌, refl, ap, sym, arith, length, ◌&&◌, Err, Result}
use Rattle.std.specs.Prelude.{None}
use Rattle.std.specs.Char.{is_ascii_digit}
use Rattle.std.specs.List.{list_all}
use Rattle.std.specs.Str.{all_ascii_digits}
use Rattle.std.specs.Str.Parse.{ParsesUnsigned, digits_value}
use Rattle.std.specs.Result.{OkIff}
use Rattle.std.proofs.lemmas.Str.Parse.{tells_all_ascii_digits, numerals_by_value, parse_digits}
use Rattle.fast_cli.specs.Number.{is_numeral, number_in}

pub list_all-digits : (text : List ℕ) → list_all is_ascii_digit text ≡ all_ascii_digits text
list_all-digits [] = refl
list_all-digits (c ∷ cs) = ap (λ b. is_ascii_digit c && b) (list_all-digits cs)

-- what std reads in digits
parse-digits : {E : Type 0} (text : List ℕ) (r : Result ℕ E) → ParsesUnsigned 64 10 text r → list_all is_ascii_digit text ≡ true
    → OkIff r ((0 < length text) × (digits_value 10 text < 2 ^ 64)) (digits_value 10 text)
parse-digits text r reads digits =
    parse_digits (numerals_by_value _ tells_all_ascii_digits) 64 text r reads (sym (list_all-digits text) ∙ digits)

and_right : (a b : Bool) → (a && b) ≡ true → b ≡ true
and_right true b e = e
and_right false b e = cc

in_digits : (text : List ℕ) → is_numeral text ≡ true → list_all is_ascii_digit text ≡ true
in_digits text e = and_right _ _ e

pub number_in-none : {E : Type 0} (least most : ℕ) (text : List ℕ) (e : E) → is_numeral text ≡ true → most < 2 ^ 64
    → ParsesUnsigned 64 10 text (Err e) → None ≡ number_in least most text
unfolding number_in
number_in-none least most text e numeral small reads =
    let large = parse-digits text (Err e) reads (in_digits text numeral) in
    grind (arith, numeral, large)
