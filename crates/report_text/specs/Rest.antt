-- What is left of a text whose beginning was put before.
use Rattle.std.specs.Prelude.{ℕ, if◌then◌else◌, List, [], ◌++◌, drop}
use Rattle.mono_model.specs.Report.{Text, ends_open, line_feed}

-- the output without its first bytes, with a line feed after it where the whole isn't empty and doesn't end in one
abbrev pub output_rest : ℕ → List ℕ → Text
output_rest put output = drop put output ++ (if ends_open output then line_feed else [])
