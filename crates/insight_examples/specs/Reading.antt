-- What is read from a stack: what isn't 0.
use Rattle.std.specs.Prelude.{ℕ, ◌+◌, nat_lt, Option, Some, None, List, filter, length, map}
use Rattle.std.specs.List.{range_with_len}
use Rattle.mono_model.specs.declared.setup.Setup.{Setup}
use Rattle.insight_model.specs.declared.pipeline.Pipeline.{Pipeline}
use Rattle.insight_model.specs.declared.pipeline.Pipeline.TheVariants.{Window, Inorder}
use Rattle.insight_model.specs.declared.cycle_cause.CycleCause.{CycleCause}
use Rattle.insight_model.specs.declared.fetch_end.FetchEnd.{FetchEnd}
use Rattle.insight_model.specs.Cause.{causes}
use Rattle.insight_model.specs.Cycles.{Cycle, cycles}
use Rattle.insight_model.specs.Fetch.{fetch_ends}
use Rattle.insight_model.specs.Stack.{head_count, fetch_count, left_cycles, commit_width, occupied, waited_in_all}

pub record Reading : Type 0 where
  -- how many cycles the run has, and on what they were spent
  pub cycles : ℕ
  pub spent : List (CycleCause × ℕ)
  -- how fetch ended in them
  pub fetch : List (FetchEnd × ℕ)
  -- in how many of them no record left, one left, two left ..
  pub left : List ℕ
  -- how many records the window had in all cycles together, and where that is told, how many of them waited
  pub occupied : ℕ
  pub waiting : Option ℕ

abbrev pub above_zero : {A : Type 0} → List (A × ℕ) → List (A × ℕ)
above_zero counts = filter (λ count. nat_lt 0 count.1) counts

abbrev pub waiting_told : Pipeline → List Cycle → Option ℕ
waiting_told Window run = Some (waited_in_all run)
waiting_told Inorder run = None

abbrev pub read_from : Pipeline → Setup → List Cycle → Reading
read_from pipeline s run = record {
  cycles = length run;
  spent = above_zero (map (λ cause. (cause, head_count run cause)) causes);
  fetch = above_zero (map (λ why. (why, fetch_count pipeline s.params run why)) fetch_ends);
  left = map (left_cycles run) (range_with_len 0 (commit_width pipeline s.params + 1));
  occupied = occupied run;
  waiting = waiting_told pipeline run;
}

-- of a run over at most a thousand cycles
unfoldable pub reading : Pipeline → Setup → Reading
reading pipeline s = read_from pipeline s (cycles pipeline s 1000)
