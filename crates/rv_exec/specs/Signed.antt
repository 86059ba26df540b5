-- Two's complement in 32 bits (RISC-V unprivileged manual, section 1.3 and chapter 2).
use Rattle.std.specs.Prelude.{ℕ, ℤ}
use Rattle.std.specs.Int.{w32, cast_signed, cast_unsigned}

-- the whole number, from -2^31 to 2^31 - 1, that a word's bits mean
abbrev pub signed_of : ℕ → ℤ
signed_of word = cast_signed w32 word

-- the word whose bits mean a number
abbrev pub word_of : ℤ → ℕ
word_of number = cast_unsigned w32 number
