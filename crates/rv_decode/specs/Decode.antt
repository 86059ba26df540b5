-- Decoding: the row of the table whose fixed bits the word has, with the word's fields, or none.
-- A word is a number below 2^32. Proofs open this by `unfolding decode_of table`, and it computes at numerals.
use Rattle.std.specs.Prelude.{ℕ, Option}
use Rattle.std.specs.List.{find}
use Rattle.std.specs.Option.{option_map}
use Rattle.rv_decode.specs.declared.insn.Insn.{Insn}
use Rattle.rv_decode.specs.Table.{has_fixed, table}

unfoldable pub decode_of : ℕ → Option Insn
decode_of word = option_map (λ row. row.insn word) (find (has_fixed word) table)
