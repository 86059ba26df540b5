-- The stages of the in-order machine, and what stayed in one, as the code has them.
use Rattle.std.specs.Prelude.{ℕ, ◌+◌, ◌≤◌, Bool, List, length, take, drop, zip}
use Rattle.insight_model.specs.Sight.{Progress, Shown, is_waiting_at, is_executing_at, is_accessing_at, is_done_at}
use Rattle.insight_model.specs.Facts.{Kept, pairs}
use Rattle.cycle_watch.specs.declared.facts.Facts.{Facts as FactsInCode}
use Rattle.cycle_watch.specs.declared.holes.Stage.{Stage}
use Rattle.cycle_watch.specs.declared.holes.Stage.TheVariants.{Decode, Execute, Memory, Write}
use Rattle.cycle_watch.specs.declared.last.LastSight.{LastSight}
use Rattle.cycle_watch.specs.Facts.{window_in}
use Rattle.cycle_watch.specs.Known.{misses_in}

abbrev pub is_in : Stage → Progress → Bool
is_in Decode progress = is_waiting_at progress
is_in Execute progress = is_executing_at progress
is_in Memory progress = is_accessing_at progress
is_in Write progress = is_done_at progress

-- the instructions that stayed, before and after a cycle, with their misses before it
abbrev pub kept_in : LastSight → FactsInCode → List Shown → List (Kept × ℕ)
kept_in last f after =
    zip (pairs (drop f.left (window_in last.marks.items)) (take f.kept after)) (drop f.left (misses_in last.marks.items))

-- So many stood in the window before the cycle, and do after it: at most eight left, and at most 256 stay.
pub record HasKept (last : LastSight) (f : FactsInCode) (after : List Shown) : Type 0 where
  pub were : f.left + f.kept ≤ length last.marks.items
  pub are : f.kept ≤ length after
  pub few : f.left + f.kept ≤ 264
