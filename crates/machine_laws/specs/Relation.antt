-- The relation law: at every place of the demand run, the monolithic machine is on the path of the functional side under
-- the orders made so far. What it has committed is the path before the next instruction to commit; what its window
-- holds of each later instruction is what the sequential step makes there; and fetch stands at the end.
-- Caches, predictor, counts and cycles don't matter here.
use Rattle.std.specs.Prelude.{◌≡◌, ◌≤◌, ℕ, suc, Option, Some, None, List, [], ◌∷◌}
use Rattle.fsim_base.specs.declared.cause.Cause.{Cause}
use Rattle.rollback_cmds.specs.declared.order.Order.{Order}
use Rattle.rollback_cmds.specs.declared.order.Order.TheVariants.{Set, Commit, Interrupt, Time, Stop, Sync}
use Rattle.mono_model.specs.declared.setup.Setup.{Setup}
use Rattle.mono_model.specs.Arch.{Arch}
use Rattle.mono_model.specs.Result.{Result}
use Rattle.mono_model.specs.Sequence.{found_next, result_at}
use Rattle.mono_model.specs.Path.{path, time_of, GoesOn}
use Rattle.mono_model.specs.Window.{Record, Stage, waiting, until, done}
use Rattle.mono_model.specs.Demand.{Demand, next}

-- a record that executes or is done holds this result: value, next address, access, cause and mtval
abbrev pub HoldsResult : Stage → Result → Type 0
HoldsResult waiting it = Unit {0}
HoldsResult (until e r) it = r ≡ it
HoldsResult (done r) it = r ≡ it

-- where fetch went behind a record: to the next address of one that is done without a cause, else as predicted
abbrev pub next_by : Option Cause → ℕ → ℕ → ℕ
next_by None next predicted = next
next_by (Some cause) next predicted = predicted

abbrev pub followed_at : Stage → ℕ → ℕ
followed_at waiting predicted = predicted
followed_at (until e r) predicted = predicted
followed_at (done r) predicted = next_by r.cause r.next predicted

-- A record stands for an instruction of the path: the one before which the state is `here`, with its time, and behind
-- which the path stands at address `behind`.
pub record Tracked (s : Setup) (given : Option ℕ) (here : Arch) (behind : ℕ) (rec : Record) : Type 0 where
  -- it has the instruction's address, and what stands there
  pub addr : rec.addr ≡ here.pc
  pub found : rec.found ≡ found_next s here
  -- it was given the instruction's time
  pub time : rec.time ≡ given
  -- from its issue on it has the instruction's result
  pub result : HoldsResult rec.stage (result_at s given here)
  -- the path goes where fetch went
  pub follows : behind ≡ followed_at rec.stage rec.predicted

-- The records of a window stand for the instructions from number `n` on, and behind them the path is where fetch is,
-- with the time that is kept for the record to fetch next.
abbrev pub Tracks : Setup → (ℕ → Option ℕ) → (ℕ → Arch) → ℕ → List Record → ℕ → Option ℕ → Type 0
Tracks s times p n [] fetch_addr kept = ((p n).pc ≡ fetch_addr) × (kept ≡ times n)
Tracks s times p n (rec ∷ rest) fetch_addr kept =
    Tracked s (times n) (p n) (p (suc n)).pc rec × Tracks s times p (suc n) rest fetch_addr kept

-- each order that changes more than the path's address speaks of instruction `n` or an earlier one
abbrev pub Within : List Order → ℕ → Type 0
Within [] n = Unit {0}
Within (Set m addr ∷ os) n = Within os n
Within (Commit m ∷ os) n = Within os n
Within (Interrupt m ∷ os) n = (m ≤ n) × Within os n
Within (Time m v ∷ os) n = (m ≤ n) × Within os n
Within (Stop m ∷ os) n = Within os n
Within (Sync m ∷ os) n = (m ≤ n) × Within os n

-- What a state of the demand run has to do with the path.
pub record Related (s : Setup) (d : Demand) : Type 0 where
  -- what is committed is the state before the next instruction to commit: its address, registers, memory, the memory
  -- that fetch sees, CSRs, devices and output
  pub arch : d.machine.arch ≡ path s d.orders d.to_commit
  -- the window and fetch stand on the path from there on
  pub window : Tracks s (time_of d.orders) (path s d.orders) d.to_commit d.machine.window d.machine.fetch_addr d.machine.kept
  -- from the record to fetch next on, the path goes on by execution
  pub on : GoesOn d.orders (next d)
  -- only Set speaks of an instruction that isn't committed yet
  pub within : Within d.orders d.to_commit
