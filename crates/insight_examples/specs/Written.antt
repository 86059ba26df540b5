-- How written texts are given in these examples: as lines.
use Rattle.std.specs.Prelude.{ℕ, ◌==◌, if◌then◌else◌, List, ◌++◌, map}
use Rattle.mono_model.specs.Report.{Text, joined, line_feed}

-- each line with its line feed
abbrev pub written : List Text → Text
written lines = joined (map (λ told. told ++ line_feed) lines)

-- a bar stands for a tab
abbrev pub tab_for_bar : ℕ → ℕ
tab_for_bar code = if code == 124 then 9 else code

abbrev pub with_tabs : List Text → Text
with_tabs lines = map tab_for_bar (written lines)

-- after a line that is there already
abbrev pub with_header : Text → List Text → Text
with_header header lines = header ++ written lines
