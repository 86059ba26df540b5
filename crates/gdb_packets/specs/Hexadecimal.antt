-- Numbers and bytes in hexadecimal digits (GDB manual, "Remote Protocol").
use Rattle.std.specs.Prelude.{ℕ, nat_le, ◌&&◌, List, length, if◌then◌else◌, Option, Some, None}
use Rattle.std.specs.Char.{is_digit}
use Rattle.std.specs.Int.{to_le_bytes, w32}
use Rattle.std.specs.List.{list_all}
use Rattle.std.specs.Result.{result_ok}
use Rattle.std.specs.Str.Parse.{digits_value}
use Rattle.hex.specs.Hex.{decode_of, encode_lower}

-- a number: one to sixteen digits of either case, the highest first
abbrev pub number_in : List ℕ → Option ℕ
number_in word =
    if nat_le 1 (length word) && nat_le (length word) 16 && list_all (λ byte. is_digit byte 16) word
    then Some (digits_value 16 word) else None

-- bytes: two digits of either case for each, the higher first
abbrev pub bytes_in : List ℕ → Option (List ℕ)
bytes_in word = result_ok (decode_of word)

-- a value of 32 bits in lower-case digits, two for each byte, the lowest byte first
abbrev pub little : ℕ → List ℕ
little value = encode_lower (to_le_bytes w32 value)
