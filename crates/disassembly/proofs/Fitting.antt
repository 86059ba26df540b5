-- An instruction that a word of 32 bits spells has its fields in their ranges.
use Rattle.std.proofs.Common.{◌≡◌, ℕ, ◌^◌, ◌<◌, Some}
use Rattle.rv_decode.specs.declared.insn.Insn.{Insn}
use Rattle.rv_decode.specs.Decode.{decode_of}
use Rattle.rv_decode.specs.Fits.{Fits}
use Rattle.rv_decode.proofs.Spelled.{spelled_fits}

pub decoded_fits : (word : ℕ) (insn : Insn) → word < 2 ^ 32 → decode_of word ≡ Some insn → Fits insn
decoded_fits word insn small e = spelled_fits insn (word, small, e)
