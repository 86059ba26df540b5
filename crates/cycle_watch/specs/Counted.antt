-- What was counted of the cycles that went by: a stack.
use Rattle.std.specs.Prelude.{◌≡◌, ℕ, ◌+◌, ◌*◌, ◌^◌, ◌<◌, ◌≤◌, All, List, length, map, slice_get, slice_index, slice_set, Some}
use Rattle.mono_model.specs.declared.params.Params.{Params}
use Rattle.insight_model.specs.declared.pipeline.Pipeline.{Pipeline}
use Rattle.insight_model.specs.declared.pipeline.Pipeline.TheVariants.{Window}
use Rattle.insight_model.specs.declared.cycle_cause.CycleCause.{CycleCause}
use Rattle.insight_model.specs.declared.fetch_end.FetchEnd.{FetchEnd}
use Rattle.insight_model.specs.Cause.{cause_place, causes}
use Rattle.insight_model.specs.Facts.{window_before}
use Rattle.insight_model.specs.Fetch.{fetch_end_place, fetch_ends}
use Rattle.cycle_watch.specs.declared.facts.Facts.{Facts as FactsInCode}
use Rattle.insight_model.specs.Stack.{fetch_count, head_count, left_cycles, occupied, waited_in_all}
use Rattle.insight_model.specs.Cycles.{Cycle}
use Rattle.insight_model.specs.Sight.{Sight}
use Rattle.insight_model.specs.Head.{Known}
use Rattle.report_text.specs.declared.stack.StackCounts.{StackCounts}
use Rattle.cycle_watch.specs.declared.stack.Stacking.{Stacking}
use Rattle.cycle_watch.specs.Known.{StandsAt}
use Rattle.cycle_watch.specs.Passing.{StandsBetween, WentBy}

-- what is counted of cycles that are alike: the count at a place has risen
abbrev pub raised : List ℕ → ℕ → ℕ → List ℕ
raised counts place cycles = slice_set counts place (slice_index counts place + cycles)

-- so many cycles were spent on this, in which fetch ended so, and of which each began with so many that waited
abbrev pub counted : FactsInCode → CycleCause → FetchEnd → ℕ → ℕ → StackCounts → StackCounts
counted f cause why waiting cycles counts = record {
  heads = raised counts.heads (cause_place cause) cycles;
  ends = raised counts.ends (fetch_end_place why) cycles;
  left = raised counts.left f.left cycles;
  occupied = counts.occupied + f.before * cycles;
  waiting = counts.waiting + waiting * cycles;
}

abbrev pub AreBelow : ℕ → List ℕ → Type 0
AreBelow bound counts = (place count : ℕ) → slice_get counts place ≡ Some count → count < bound

-- more can be counted: a run is short of 2^48 cycles, and a window holds 256 instructions at most
pub record HasCountRoom (counts : StackCounts) : Type 0 where
  pub heads : AreBelow (2 ^ 60) counts.heads
  pub ends : AreBelow (2 ^ 60) counts.ends
  pub left : AreBelow (2 ^ 60) counts.left
  pub occupied : counts.occupied < 2 ^ 60
  pub waiting : counts.waiting < 2 ^ 60

-- a stack of these cycles
pub record IsStackOf (pipeline : Pipeline) (p : Params) (run : List Cycle) (counts : StackCounts) : Type 0 where
  pub heads : counts.heads ≡ map (head_count run) causes
  pub ends : counts.ends ≡ map (fetch_count pipeline p run) fetch_ends
  pub left : (count : ℕ) → count ≤ 8 → slice_get counts.left count ≡ Some (left_cycles run count)
  pub occupied : counts.occupied ≡ occupied run
  pub waiting : counts.waiting ≡ waited_in_all run
  pub few : All (λ cycle. length (window_before cycle.facts) ≤ 256) run
  pub every : length counts.left ≡ 9

-- an observer has counted these cycles, and others went by since
pub record IsStacking (stacking : Stacking) (after : Sight) : Type 0 where
  pub pipeline : Pipeline
  pub params : Params
  pub before : Sight
  pub known : Known
  pub run : List Cycle
  pub more : ℕ
  pub stands : StandsAt pipeline params before known stacking.heads
  pub counted : IsStackOf pipeline params run stacking.counts
  pub all : length run ≡ before.cycle
  pub went : WentBy pipeline more before after

-- The observer stands between two cycles in which nothing happens, and has counted those before.
pub record IsStackingBetween (stacking : Stacking) (after : Sight) : Type 0 where
  pub between : StandsBetween stacking.heads after
  pub run : List Cycle
  pub counted : IsStackOf Window between.params run stacking.counts
  pub short : length run ≤ stacking.heads.last.cycle
