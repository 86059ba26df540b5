-- The third phase of a cycle: records whose latency is over are done, the oldest first; the first mispredicted one
-- flushes all younger records (Hennessy and Patterson, Computer Architecture, section 3.6, write result).
use Rattle.std.specs.Prelude.{ℕ, ◌+◌, ◌==◌, ◌&&◌, not, if◌then◌else◌, Bool, is_none, Option, Some, None, List, [], ◌∷◌}
use Rattle.mono_model.specs.Result.{Result}
use Rattle.mono_model.specs.Window.{Record, Stage, waiting, until, done}
use Rattle.mono_model.specs.Machine.{Machine, flushed}

-- The records that stay, and where fetch has to go on, if a record was mispredicted.
pub record Completed : Type 0 where
  pub records : List Record
  pub redirect : Option ℕ

-- the result of a record whose latency is over in this cycle
abbrev pub due : ℕ → Stage → Option Result
due cycle waiting = None
due cycle (until e r) = if e == cycle then Some r else None
due cycle (done r) = None

-- it went elsewhere than predicted; a record with a cause never counts
abbrev pub is_mispredicted : Record → Result → Bool
is_mispredicted rec r = is_none r.cause && not (r.next == rec.predicted)

abbrev pub in_front : Record → Completed → Completed
in_front rec rest = record rest { records = rec ∷ rest.records }

abbrev pub complete_next : Record → Option Result → Completed → Completed
complete_next rec None rest = in_front rec rest
complete_next rec (Some r) rest =
    if is_mispredicted rec r
    then record { records = record rec { stage = done r } ∷ []; redirect = Some r.next }
    else in_front (record rec { stage = done r }) rest

unfoldable pub completes : ℕ → List Record → Completed
completes cycle [] = record { records = []; redirect = None }
completes cycle (rec ∷ rest) = complete_next rec (due cycle rec.stage) (completes cycle rest)

abbrev pub completed_by : Option ℕ → List Record → Machine → Machine
completed_by None records m = record m { window = records }
completed_by (Some addr) records m =
    let f = flushed records addr m in record f { counts = record f.counts { mispredicted = f.counts.mispredicted + 1 } }

unfoldable pub complete_phase : Machine → Machine
complete_phase m = let c = completes m.cycle m.window in completed_by c.redirect c.records m
