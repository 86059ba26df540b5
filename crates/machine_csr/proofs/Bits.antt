use Rattle.std.proofs.Common.{◌≡◌, ℕ, ◌+◌, ◌*◌, ◌/◌, ◌%◌, ◌^◌, ◌<◌, bit_and, arith, lit<}
use Rattle.std.proofs.lemmas.Nat.{and-not, and_comm}
use Rattle.std.proofs.lemmas.Nat.Bits.{and_pow}
use Rattle.std.specs.Int.{bit_at}

-- a mask without bit 1 takes just that bit away
pub bit_1_cleared : (word : ℕ) → word < 2 ^ 32 → bit_and word 4294967293 ≡ word / 4 * 4 + word % 2
bit_1_cleared word fits =
    let split : bit_and 4294967293 word + bit_and 2 word ≡ word = and-not 32 2 word (lit< tt) fits in
    let bit : bit_and word 2 ≡ bit_at word 1 * 2 = and_pow word 1 in
    omega (arith, and_comm word 4294967293, and_comm word 2)
