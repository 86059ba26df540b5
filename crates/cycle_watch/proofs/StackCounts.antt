-- The counts of a stack, from some cycles to more.
use Rattle.std.proofs.Common.{◌≡◌, ◌∙◌, ℕ, ◌+◌, ◌≤◌, ◌==◌, Bool, List, [], ◌∷◌, ◌++◌, length, map, cond, refl, sym, ap, arith}
use Rattle.std.specs.Prelude.{count_by, sum_by}
use Rattle.std.proofs.lemmas.List.Sums.{sum_by-append}
use Rattle.mono_model.specs.declared.params.Params.{Params}
use Rattle.insight_model.specs.declared.pipeline.Pipeline.{Pipeline}
use Rattle.insight_model.specs.declared.cycle_cause.CycleCause.{CycleCause}
use Rattle.insight_model.specs.declared.fetch_end.FetchEnd.{FetchEnd}
use Rattle.insight_model.specs.Cause.{is_cause}
use Rattle.insight_model.specs.Cycles.{Cycle}
use Rattle.insight_model.specs.Facts.{window_before}
use Rattle.insight_model.specs.Fetch.{fetch_end, is_fetch_end}
use Rattle.insight_model.specs.Stack.{fetch_count, head_count, left_cycles, occupied, waited_in_all, waiting_in}

count_more : {A : Type 0} (p : A → Bool) (xs ys : List A) → count_by p (xs ++ ys) ≡ count_by p xs + count_by p ys
count_more p xs ys = sum_by-append (λ x. cond (p x) 1 0) xs ys

module _ (pipeline : Pipeline) (p : Params) (run more : List Cycle) where
  pub head_more : (cause : CycleCause) → head_count (run ++ more) cause ≡ head_count run cause + head_count more cause
  head_more cause = count_more (λ cycle. is_cause cause cycle.head.cause) run more

  pub fetch_more : (why : FetchEnd) → fetch_count pipeline p (run ++ more) why ≡ fetch_count pipeline p run why + fetch_count pipeline p more why
  fetch_more why = count_more (λ cycle. is_fetch_end why (fetch_end pipeline p cycle.facts)) run more

  pub left_more : (count : ℕ) → left_cycles (run ++ more) count ≡ left_cycles run count + left_cycles more count
  left_more count = count_more (λ cycle. length cycle.facts.left == count) run more

  pub occupied_more : occupied (run ++ more) ≡ occupied run + occupied more
  occupied_more = sum_by-append (λ cycle. length (window_before cycle.facts)) run more

  pub waited_more : waited_in_all (run ++ more) ≡ waited_in_all run + waited_in_all more
  waited_more = sum_by-append (λ cycle. waiting_in (window_before cycle.facts)) run more
