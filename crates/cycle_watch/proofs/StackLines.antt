-- The lines of a stack's counts are those of its cycles.
use Rattle.std.proofs.Common.{◌≡◌, ◌∙◌, ℕ, zero, suc, ◌+◌, ◌≤◌, ◌<◌, ◌∷◌, ◌++◌, [], List, codes, map, Option, Some, None, refl, ap, sym, arith}
use Rattle.std.specs.Prelude.{decimal, slice_get, zip, unwrap_or}
use Rattle.std.specs.List.{range_with_len}
use Rattle.mono_model.specs.declared.params.Params.{Params}
use Rattle.mono_model.specs.Report.{Text, count_line}
use Rattle.insight_model.specs.declared.pipeline.Pipeline.{Pipeline}
use Rattle.insight_model.specs.declared.pipeline.Pipeline.TheVariants.{Window, Inorder}
use Rattle.insight_model.specs.declared.cycle_cause.CycleCause.{CycleCause}
use Rattle.insight_model.specs.declared.fetch_end.FetchEnd.{FetchEnd}
use Rattle.insight_model.specs.Cause.{cause_name, causes}
use Rattle.insight_model.specs.Cycles.{Cycle}
use Rattle.insight_model.specs.Fetch.{fetch_end_name, fetch_ends}
use Rattle.insight_model.specs.Stack.{commit_width, fetch_count, fetch_line, head_count, head_line, left_cycles, left_line, occupied_lines, stack_lines}
use Rattle.report_text.specs.declared.stack.StackCounts.{StackCounts}
use Rattle.report_text.specs.StackText.{fetch_lines_of, head_lines_of, left_lines_of, occupied_lines_of, stack_lines_of}
use Rattle.cycle_watch.specs.Counted.{IsStackOf}

zip_map : {A B C : Type 0} (f : A × B → C) (g : A → B) (xs : List A) → map f (zip xs (map g xs)) ≡ map (λ x. f (x, g x)) xs
zip_map f g [] = refl
zip_map {C = C} f g (x ∷ xs) = ap (λ (ys : List C). f (x, g x) ∷ ys) (zip_map f g xs)

zip_range : {C : Type 0} (f : ℕ × ℕ → C) (g : ℕ → ℕ) (from n : ℕ) (ys : List ℕ) → ((k : ℕ) → k < n → slice_get ys k ≡ Some (g (from + k))) →
    map f (zip (range_with_len from n) ys) ≡ map (λ k. f (k, g k)) (range_with_len from n)
zip_range f g from zero ys there = refl
zip_range f g from (suc n) [] there = let e : None ≡ Some (g (from + 0)) = there 0 (omega arith) in cc
zip_range f g from (suc n) (y ∷ ys) there =
    let at : from + 0 ≡ from = omega arith in
    let first : y ≡ g from = ap (λ (o : Option ℕ). unwrap_or o y) (there 0 (omega arith)) ∙ ap g at in
    let next : (k : ℕ) → k < n → slice_get ys k ≡ Some (g (from + 1 + k)) =
    λ k below. let later : from + suc k ≡ from + 1 + k = omega arith in there (suc k) (omega arith) ∙ ap (λ (j : ℕ). Some (g j)) later in
    λ i. f (from, first i) ∷ zip_range f g (from + 1) n ys next i

pub stack_is : (pipeline : Pipeline) (p : Params) (run : List Cycle) (counts : StackCounts) → IsStackOf pipeline p run counts → commit_width pipeline p ≤ 8 → stack_lines_of pipeline p counts ≡ stack_lines pipeline p run
unfolding stack_lines
stack_is pipeline p run counts is fit = λ i. heads i ++ ends i ++ left i ++ rest pipeline i
  where
    heads : head_lines_of counts ≡ map (head_line run) causes
    heads =
        ap (λ (ns : List ℕ). map (λ k. count_line (codes "head." ++ cause_name k.0 ++ codes ": ") k.1) (zip causes ns)) is.heads
        ∙ zip_map (λ (k : CycleCause × ℕ). count_line (codes "head." ++ cause_name k.0 ++ codes ": ") k.1) (head_count run) causes

    ends : fetch_lines_of counts ≡ map (fetch_line pipeline p run) fetch_ends
    ends =
        ap (λ (ns : List ℕ). map (λ k. count_line (codes "fetch." ++ fetch_end_name k.0 ++ codes ": ") k.1) (zip fetch_ends ns)) is.ends
        ∙ zip_map (λ (k : FetchEnd × ℕ). count_line (codes "fetch." ++ fetch_end_name k.0 ++ codes ": ") k.1) (fetch_count pipeline p run) fetch_ends

    left : left_lines_of (commit_width pipeline p) counts ≡ map (left_line run) (range_with_len 0 (commit_width pipeline p + 1))
    left =
        zip_range (λ (k : ℕ × ℕ). count_line (codes "left." ++ decimal k.0 ++ codes ": ") k.1) (left_cycles run) 0 (commit_width pipeline p + 1) counts.left
        (λ k below. let same : k ≡ 0 + k = omega arith in is.left k (omega (arith, below, fit)) ∙ ap (λ (j : ℕ). Some (left_cycles run j)) same)

    rest : (which : Pipeline) → occupied_lines_of which counts ≡ occupied_lines which run
    rest Window = λ i. count_line (codes "occupied: ") (is.occupied i) ∷ count_line (codes "waiting: ") (is.waiting i) ∷ []
    rest Inorder = λ i. count_line (codes "occupied: ") (is.occupied i) ∷ []
