-- The parts of a row of numbers.
use Rattle.std.specs.Prelude.{ℕ, List, ◌∷◌, Option, Some, None, decimal, map}
use Rattle.mono_model.specs.Report.{Text, joined}
use Rattle.insight_model.specs.Profile.{other_row}

-- the row of an address, and the one that all other addresses share
abbrev pub row_number : Option ℕ → ℕ
row_number None = other_row
row_number (Some addr) = addr

-- numbers, each after a comma
abbrev pub number_text : ℕ → Text
number_text number = 44 ∷ decimal number

abbrev pub numbers_text : List ℕ → Text
numbers_text numbers = joined (map number_text numbers)
