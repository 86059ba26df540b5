-- The cell of a record in a cycle: the stage that a pipeline viewer shows, by the state after the cycle.
use Rattle.std.specs.Prelude.{ℕ, ◌+◌, ◌-◌, ◌==◌, ◌&&◌, nat_le, nat_lt, if◌then◌else◌, Bool, codes}
use Rattle.mono_model.specs.declared.params.Params.{Params}
use Rattle.mono_model.specs.Report.{Text}
use Rattle.insight_model.specs.declared.pipeline.Pipeline.{Pipeline}
use Rattle.insight_model.specs.declared.pipeline.Pipeline.TheVariants.{Window, Inorder}
use Rattle.insight_model.specs.Sight.{Progress, waiting, executing, accessing, done, Shown}

pub data Cell : Type 0 where
  -- fetched, and on its way through the front of the pipeline; in order, fetched in this cycle
  fetch : Cell
  -- waits for its operands or a unit; in order, in Decode
  queue : Cell
  decode : Cell
  execute : Cell
  -- waits for its miss; in order, in Memory with a miss, and without one
  miss : Cell
  memory : Cell
  -- done; in order, in Write
  complete : Cell
  write : Cell

abbrev pub cell_letter : Cell → Text
cell_letter fetch = codes "F"
cell_letter queue = codes "Q"
cell_letter decode = codes "D"
cell_letter execute = codes "X"
cell_letter miss = codes "M"
cell_letter memory = codes "A"
cell_letter complete = codes "C"
cell_letter write = codes "W"

abbrev pub cell_place : Cell → ℕ
cell_place fetch = 0
cell_place queue = 1
cell_place decode = 2
cell_place execute = 3
cell_place miss = 4
cell_place memory = 5
cell_place complete = 6
cell_place write = 7

abbrev pub is_cell : Cell → Cell → Bool
is_cell a b = cell_place a == cell_place b

-- with the cycles that the miss of a load adds: in the window its last ones are those of the miss
abbrev pub has_miss_in : ℕ → ℕ → ℕ → Bool
has_miss_in cycle added e = nat_lt 0 added && nat_le (e - added) cycle

abbrev pub window_cell : Params → ℕ → ℕ → ℕ → Progress → Cell
window_cell p cycle added since waiting = if nat_lt cycle (since + p.core_front) then fetch else queue
window_cell p cycle added since (executing e o) = if has_miss_in cycle added e then miss else execute
window_cell p cycle added since (accessing e o) = execute
window_cell p cycle added since (done o) = complete

abbrev pub stage_cell : ℕ → Progress → Cell
stage_cell added waiting = decode
stage_cell added (executing e o) = execute
stage_cell added (accessing e o) = if nat_lt 0 added then miss else memory
stage_cell added (done o) = write

unfoldable pub cell : Pipeline → Params → ℕ → ℕ → Shown → Cell
cell Window p cycle added shown = window_cell p cycle added shown.since shown.progress
cell Inorder p cycle added shown = if cycle == shown.since then fetch else stage_cell added shown.progress
