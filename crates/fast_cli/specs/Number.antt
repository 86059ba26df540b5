-- Numbers as words write them.
use Rattle.std.specs.Prelude.{ℕ, Bool, List, Option, Some, None, length, nat_le, ◌&&◌}
use Rattle.std.specs.Prelude.{if◌then◌else◌}
use Rattle.std.specs.Char.{is_ascii_digit}
use Rattle.std.specs.List.{list_all}
use Rattle.std.specs.Str.Parse.{digits_value}

-- one to twenty decimal digits, and so no sign
abbrev pub is_numeral : List ℕ → Bool
is_numeral text = nat_le 1 (length text) && nat_le (length text) 20 && list_all is_ascii_digit text

abbrev pub is_between : ℕ → ℕ → ℕ → Bool
is_between least most n = nat_le least n && nat_le n most

-- the number that the text writes in decimal, where it is from `least` to `most`
unfoldable pub number_in : ℕ → ℕ → List ℕ → Option ℕ
number_in least most text =
    if is_numeral text && is_between least most (digits_value 10 text)
    then Some (digits_value 10 text) else None
