-- How many characters a number has in decimal digits.
use Rattle.std.proofs.Common.{ℕ, ◌^◌, ◌≤◌, ◌<◌, length, arith}
use lib.Signed.{mag}
use Rattle.std.specs.Fmt.{decimal}
use Rattle.std.specs.Int.{w32, cast_signed}
use Rattle.std.proofs.lemmas.Fmt.{length_signed_le, length-decimal-le}
use Rattle.rv_decode.specs.Fits.{IsImmediate}
use Rattle.disassembly.specs.Number.{signed}

-- an immediate of 12 bits, by its value
magnitude : (imm : ℕ) → imm < 2 ^ 32 → IsImmediate imm 12 → mag (cast_signed w32 imm) < 2 ^ 11
magnitude imm small h = grind arith

-- a minus and four digits
pub length_signed : (imm : ℕ) → imm < 2 ^ 32 → IsImmediate imm 12 → length (signed imm) ≤ 5
length_signed imm small h =
    let m : mag (cast_signed w32 imm) < 2 ^ 11 = magnitude imm small h in
    length_signed_le 4 (cast_signed w32 imm) (omega arith) (omega arith)

-- a number below 100
pub length_small : (n : ℕ) → n < 100 → length (decimal n) ≤ 2
length_small n h = length-decimal-le 2 n (omega arith) (omega arith) (omega arith)
