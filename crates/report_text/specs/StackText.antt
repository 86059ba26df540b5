-- The lines of a stack, from its counts.
use Rattle.std.specs.Prelude.{ℕ, ◌+◌, List, [], ◌∷◌, ◌++◌, codes, decimal, map, zip}
use Rattle.std.specs.List.{range_with_len}
use Rattle.mono_model.specs.declared.params.Params.{Params}
use Rattle.mono_model.specs.Report.{Text, count_line}
use Rattle.insight_model.specs.declared.pipeline.Pipeline.{Pipeline}
use Rattle.insight_model.specs.declared.pipeline.Pipeline.TheVariants.{Window, Inorder}
use Rattle.insight_model.specs.Cause.{causes, cause_name}
use Rattle.insight_model.specs.Fetch.{fetch_ends, fetch_end_name}
use Rattle.insight_model.specs.Stack.{commit_width}
use Rattle.report_text.specs.declared.stack.StackCounts.{StackCounts}

abbrev pub head_lines_of : StackCounts → List Text
head_lines_of counts = map (λ k. count_line (codes "head." ++ cause_name k.0 ++ codes ": ") k.1) (zip causes counts.heads)

abbrev pub fetch_lines_of : StackCounts → List Text
fetch_lines_of counts = map (λ k. count_line (codes "fetch." ++ fetch_end_name k.0 ++ codes ": ") k.1) (zip fetch_ends counts.ends)

abbrev pub left_lines_of : ℕ → StackCounts → List Text
left_lines_of width counts =
    map (λ k. count_line (codes "left." ++ decimal k.0 ++ codes ": ") k.1) (zip (range_with_len 0 (width + 1)) counts.left)

abbrev pub occupied_lines_of : Pipeline → StackCounts → List Text
occupied_lines_of Window counts = count_line (codes "occupied: ") counts.occupied ∷ count_line (codes "waiting: ") counts.waiting ∷ []
occupied_lines_of Inorder counts = count_line (codes "occupied: ") counts.occupied ∷ []

abbrev pub stack_lines_of : Pipeline → Params → StackCounts → List Text
stack_lines_of pipeline p counts =
    head_lines_of counts ++ fetch_lines_of counts ++ left_lines_of (commit_width pipeline p) counts ++ occupied_lines_of pipeline counts
