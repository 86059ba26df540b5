-- A row of numbers from its parts.
use Rattle.std.proofs.Common.{◌≡◌, ℕ, ◌<◌, List, [], ◌∷◌, ◌++◌, codes, length, map, get_or, ap, sym, ◌∙◌, append_assoc, arith}
use Rattle.std.specs.Prelude.{decimal}
use Rattle.std.specs.List.{join_with_byte}
use Rattle.std.proofs.lemmas.List.{append-nil, get_or-map, length-map}
use Rattle.mono_model.specs.Report.{hex, line_feed}
use Rattle.insight_model.specs.Profile.{numbers_line, row_name}
use Rattle.report_text.specs.RowText.{number_text, numbers_text}

join_numbers : (first : List ℕ) (numbers : List ℕ) → join_with_byte 44 (first ∷ map decimal numbers) ≡ first ++ numbers_text numbers
join_numbers first [] = sym (append-nil first)
join_numbers first (number ∷ numbers) = ap (λ t. first ++ 44 ∷ t) (join_numbers (decimal number) numbers)

pub row_parts : (row word : ℕ) (numbers : List ℕ) → (row_name row ++ codes "," ++ hex 8 word ++ numbers_text numbers) ++ line_feed ≡ numbers_line row word numbers
row_parts row word numbers =
    ap (λ t. t ++ line_feed)
    (append_assoc (row_name row ++ codes ",") (hex 8 word) (numbers_text numbers)
    ∙ append_assoc (row_name row) (codes ",") (hex 8 word ++ numbers_text numbers)
    ∙ ap (λ t. row_name row ++ 44 ∷ t) (sym (join_numbers (hex 8 word) numbers)))

-- the texts of numbers, one by one
pub texts_within : (numbers : List ℕ) (i : ℕ) → i < length numbers → i < length (map number_text numbers)
texts_within numbers i within = omega (arith, within, length-map numbers number_text)

pub text_at : (numbers : List ℕ) (i : ℕ) → i < length numbers → number_text (get_or numbers i 0) ≡ get_or (map number_text numbers) i (number_text (get_or numbers i 0))
text_at numbers i within = sym (get_or-map number_text numbers i 0 (number_text (get_or numbers i 0)) within)
