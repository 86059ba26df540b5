-- The cycles that went by since a machine was seen last: one, and then others in which nothing happened.
use Rattle.std.specs.Prelude.{◌≡◌, ℕ, zero, suc, ◌+◌, ◌-◌, ◌<◌, ◌≤◌, ◌^◌, ◌⊎◌, false, List, [], ◌∷◌, length, slice_get, Some}
use Rattle.mono_model.specs.declared.params.Params.{Params}
use Rattle.insight_model.specs.declared.pipeline.Pipeline.{Pipeline}
use Rattle.insight_model.specs.declared.pipeline.Pipeline.TheVariants.{Inorder, Window}
use Rattle.insight_model.specs.Sight.{Sight}
use Rattle.insight_model.specs.Facts.{Facts, departed, facts as cycle_facts, has_stopped}
use Rattle.insight_model.specs.Head.{Known}
use Rattle.insight_model.specs.Cycles.{known_after}
use Rattle.cycle_watch.specs.declared.heads.Heads.{Heads}
use Rattle.cycle_watch.specs.declared.last.LastSight.{LastSight}
use Rattle.cycle_watch.specs.declared.mark.Mark.{Mark}
use Rattle.cycle_watch.specs.declared.shown.Progress.TheVariants.{Executing}
use Rattle.cycle_watch.specs.Facts.{Follows, at_cycle, idle}
use Rattle.cycle_watch.specs.Known.{StandsAt}

-- so many cycles in which nothing happens, from a sight on
abbrev pub idle_facts : ℕ → Sight → List Facts
idle_facts zero s = []
idle_facts (suc more) s = cycle_facts s (idle s) ∷ idle_facts more (idle s)

-- the cycles from one sight to a later one, of which the first alone did anything
abbrev pub facts_since : ℕ → Sight → Sight → List Facts
facts_since more before after =
    cycle_facts before after ∷ idle_facts more (at_cycle (before.cycle + 1) after)

-- so many cycles went by
pub record WentBy (pipeline : Pipeline) (more : ℕ) (before after : Sight) : Type 0 where
  pub cycle : after.cycle ≡ before.cycle + 1 + more
  pub follows : Follows before after
  pub small : after.cycle < 2 ^ 48
  -- the in-order machine is seen in each cycle
  pub each : pipeline ≡ Inorder → more ≡ 0
  -- a run that was ended before fetch is seen in the cycle after that one
  pub stopped : 0 < more → has_stopped after.end ≡ false

-- what is known after some cycles
abbrev pub known_later : Pipeline → Params → Known → List Facts → Known
known_later pipeline p known [] = known
known_later pipeline p known (f ∷ rest) = known_later pipeline p (known_after pipeline p f known) rest

-- a turn doesn't come in these cycles but for the first: it was before, or it is at their end or later
abbrev pub IsApart : ℕ → ℕ → ℕ → Type 0
IsApart from turn end = (turn ≤ from) ⊎ (end ≤ turn)

-- Nothing that is charged turns in the cycles up to this one: fetch goes on or not, the oldest is young or not, and it would
-- be done or not, had it hit.
pub record HasNoTurn (last : LastSight) (end : ℕ) : Type 0 where
  pub resume : IsApart last.cycle last.resume end
  pub young : (mark : Mark) → slice_get last.marks.items 0 ≡ Some mark
      → IsApart last.cycle (mark.shown.since + (last.params.core_front + 2)) end
  pub missing : (mark : Mark) (until : ℕ) → slice_get last.marks.items 0 ≡ Some mark → mark.shown.progress ≡ Executing until
      → IsApart last.cycle (until - mark.miss + 1) end

-- The observer stands between two cycles in which nothing happens, of a machine around a window that is seen later.
pub record StandsBetween (heads : Heads) (after : Sight) : Type 0 where
  pub params : Params
  pub known : Known
  pub stands : StandsAt Window params (at_cycle heads.last.cycle after) known heads
  pub started : 0 < heads.last.cycle
  pub small : after.cycle < 2 ^ 48
  pub goes : has_stopped after.end ≡ false
  pub within : length after.window ≤ 256
  pub few : departed after < 2 ^ 63

-- the cycles between two numbers
abbrev pub idle_between : ℕ → ℕ → Sight → List Facts
idle_between from to after = idle_facts (to - from) (at_cycle from after)
