-- Looking a word up in a list of rows.
use Rattle.std.proofs.Common.{◌≡◌, ap, ℕ, Option, Some, true, false, List, ◌∷◌}
use Rattle.std.specs.List.{find}
use Rattle.std.specs.Option.{option_map}
use Rattle.std.proofs.lemmas.Bool.{cond-true, cond-false}
use Rattle.rv_decode.specs.declared.insn.Insn.{Insn}
use Rattle.rv_decode.specs.Table.{Row, has_fixed}

-- what the first row whose fixed bits the word has makes of it
abbrev pub found : ℕ → List Row → Option Insn
found word rs = option_map (λ r. r.insn word) (find (has_fixed word) rs)

pub found-here : (word : ℕ) (r : Row) (rs : List Row) → has_fixed word r ≡ true → found word (r ∷ rs) ≡ Some (r.insn word)
found-here word r rs h = ap (option_map (λ r. r.insn word)) (cond-true (has_fixed word r) (Some r) (find (has_fixed word) rs) h)

pub found-past : (word : ℕ) (r : Row) (rs : List Row) → has_fixed word r ≡ false → found word (r ∷ rs) ≡ found word rs
found-past word r rs h = ap (option_map (λ r. r.insn word)) (cond-false (has_fixed word r) (Some r) (find (has_fixed word) rs) h)
