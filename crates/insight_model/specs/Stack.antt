-- The stack: on what the cycles of a run were spent, how fetch ended in them, how many records left, and how full the
-- window was (Eyerman and others, A Performance Counter Architecture for Computing Accurate CPI Components, ASPLOS 2006).
use Rattle.std.specs.Prelude.{ℕ, ◌+◌, ◌==◌, List, [], ◌∷◌, ◌++◌, codes, decimal, map, length, sum_by, count_by}
use Rattle.std.specs.List.{range_with_len}
use Rattle.mono_model.specs.declared.params.Params.{Params}
use Rattle.mono_model.specs.declared.setup.Setup.{Setup}
use Rattle.mono_model.specs.Report.{Text, count_line, joined, text}
use Rattle.inorder_machine.specs.Cycle.{inorder_text}
use Rattle.insight_model.specs.declared.pipeline.Pipeline.{Pipeline}
use Rattle.insight_model.specs.declared.pipeline.Pipeline.TheVariants.{Window, Inorder}
use Rattle.insight_model.specs.declared.cycle_cause.CycleCause.{CycleCause}
use Rattle.insight_model.specs.declared.fetch_end.FetchEnd.{FetchEnd}
use Rattle.insight_model.specs.Cause.{causes, cause_name, is_cause}
use Rattle.insight_model.specs.Sight.{Shown, is_waiting_at}
use Rattle.insight_model.specs.Facts.{window_before}
use Rattle.insight_model.specs.Cycles.{Cycle, cycles}
use Rattle.insight_model.specs.Fetch.{fetch_end, fetch_ends, fetch_end_name, is_fetch_end}

-- how many cycles were spent on a cause; in how many fetch ended so; in how many so many records left
abbrev pub head_count : List Cycle → CycleCause → ℕ
head_count run cause = count_by (λ cycle. is_cause cause cycle.head.cause) run

abbrev pub fetch_count : Pipeline → Params → List Cycle → FetchEnd → ℕ
fetch_count pipeline p run why = count_by (λ cycle. is_fetch_end why (fetch_end pipeline p cycle.facts)) run

abbrev pub left_cycles : List Cycle → ℕ → ℕ
left_cycles run count = count_by (λ cycle. length cycle.facts.left == count) run

-- over all cycles, how many records the window had as each began, and how many of them waited
abbrev pub occupied : List Cycle → ℕ
occupied run = sum_by (λ cycle. length (window_before cycle.facts)) run

abbrev pub waiting_in : List Shown → ℕ
waiting_in shown = count_by (λ rec. is_waiting_at rec.progress) shown

abbrev pub waited_in_all : List Cycle → ℕ
waited_in_all run = sum_by (λ cycle. waiting_in (window_before cycle.facts)) run

-- how many may leave in a cycle
abbrev pub commit_width : Pipeline → Params → ℕ
commit_width Window p = p.core_commit
commit_width Inorder p = 1

-- The lines.
abbrev pub head_line : List Cycle → CycleCause → Text
head_line run cause = count_line (codes "head." ++ cause_name cause ++ codes ": ") (head_count run cause)

abbrev pub fetch_line : Pipeline → Params → List Cycle → FetchEnd → Text
fetch_line pipeline p run why = count_line (codes "fetch." ++ fetch_end_name why ++ codes ": ") (fetch_count pipeline p run why)

abbrev pub left_line : List Cycle → ℕ → Text
left_line run count = count_line (codes "left." ++ decimal count ++ codes ": ") (left_cycles run count)

abbrev pub occupied_lines : Pipeline → List Cycle → List Text
occupied_lines Window run = count_line (codes "occupied: ") (occupied run) ∷ count_line (codes "waiting: ") (waited_in_all run) ∷ []
occupied_lines Inorder run = count_line (codes "occupied: ") (occupied run) ∷ []

unfoldable pub stack_lines : Pipeline → Params → List Cycle → List Text
stack_lines pipeline p run =
    map (head_line run) causes
    ++ map (fetch_line pipeline p run) fetch_ends
    ++ map (left_line run) (range_with_len 0 (commit_width pipeline p + 1))
    ++ occupied_lines pipeline run

-- what is written of a run: its output and report, and then the stack
abbrev pub run_text : Pipeline → Setup → ℕ → Text
run_text Window s most = text s most
run_text Inorder s most = inorder_text s most

unfoldable pub stack_text : Pipeline → Setup → ℕ → Text
stack_text pipeline s most = run_text pipeline s most ++ joined (stack_lines pipeline s.params (cycles pipeline s most))
