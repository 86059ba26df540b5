-- Numbers as a disassembler writes them: ASCII codes, letters small.
use Rattle.std.specs.Prelude.{ℕ, ◌-◌, List, ◌++◌, codes, length, replicate, false}
use Rattle.std.specs.Fmt.{digits, signed_decimal}
use Rattle.std.specs.Int.{w32, cast_signed}

abbrev pub Text : Type 0
Text = List ℕ

-- in hexadecimal digits, with zeros before them if they are fewer than `width`
unfoldable pub hex : ℕ → ℕ → Text
hex width number = let figures = digits 16 false number in replicate (width - length figures) 48 ++ figures

-- in hexadecimal digits without leading zeros, `0x` before them
abbrev pub prefixed : ℕ → Text
prefixed number = codes "0x" ++ hex 1 number

-- a word's bits as two's complement, in decimal digits
abbrev pub signed : ℕ → Text
signed word = signed_decimal (cast_signed w32 word)
