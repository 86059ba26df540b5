-- The turns of the timing side: the phases of a cycle in their order, the end of the cycle, and the last order.
use Rattle.std.specs.Prelude.{ℕ, zero, suc, ◌+◌, ◌==◌, if◌then◌else◌, List}
use Rattle.rollback_cmds.specs.declared.order.Order.{Order}
use Rattle.rollback_cmds.specs.declared.order.Order.TheVariants.{Stop}
use Rattle.trace_entry.specs.declared.Entry.{Entry}
use Rattle.mono_model.specs.declared.final_state.End.TheVariants.{Limit}
use Rattle.mono_model.specs.declared.setup.Setup.{Setup}
use Rattle.mono_model.specs.Final.{has_ended}
use Rattle.mono_model.specs.Demand.{At, interrupting, committing, completing, issuing, trying, ending, stopping, halted}
use Rattle.timing_side.specs.Timing.{Timing, Phase, quiet, ordering}
use Rattle.timing_side.specs.Interrupt.{timing_interrupt}
use Rattle.timing_side.specs.Commit.{timing_commit}
use Rattle.timing_side.specs.Complete.{timing_complete}
use Rattle.timing_side.specs.Issue.{timing_issue}
use Rattle.timing_side.specs.Fetch.{Tried, may_fetch, timing_try}

-- the end of a cycle: a run that has not ended ends at the limit
unfoldable pub timing_end_of_cycle : Setup → Timing → Timing
timing_end_of_cycle s t = record t {
  cycle = t.cycle + 1;
  end = if has_ended t.end then t.end else (if t.cycle + 1 == s.cycles then Limit else t.end);
}

-- A turn: the state behind it, the turn that comes next, and the orders that it makes, the newest first.
pub record Turned : Type 0 where
  pub timing : Timing
  pub at : At
  pub orders : List Order

abbrev pub turned : Phase → At → Turned
turned p at = record { timing = p.timing; at = at; orders = p.orders }

-- a try where one may be made, else the end of the cycle
abbrev pub try_or_end : Setup → ℕ → Timing → At
try_or_end s zero t = ending
try_or_end s (suc more) t = if may_fetch s t then trying more else ending

-- the phases behind commit are left out where the run has ended
abbrev pub at_after_commit : Timing → At
at_after_commit t = if has_ended t.end then ending else completing

abbrev pub at_after_try : Setup → ℕ → Tried → At
at_after_try s more f = if f.goes_on then try_or_end s more f.phase.timing else ending

abbrev pub at_after_cycle : Timing → At
at_after_cycle t = if has_ended t.end then stopping else interrupting

-- one turn; only a try needs the entry
unfoldable pub timing_turn : Setup → Entry → At → Timing → Turned
timing_turn s e interrupting t = turned (timing_interrupt t) committing
timing_turn s e committing t = let p = timing_commit s t in turned p (at_after_commit p.timing)
timing_turn s e completing t = turned (timing_complete t) issuing
timing_turn s e issuing t = let p = timing_issue s t in turned p (try_or_end s s.params.core_fetch p.timing)
timing_turn s e (trying more) t = let f = timing_try s e t in turned f.phase (at_after_try s more f)
timing_turn s e ending t = let behind = timing_end_of_cycle s t in turned (quiet behind) (at_after_cycle behind)
timing_turn s e stopping t = turned (ordering (Stop t.to_commit) t) halted
timing_turn s e halted t = turned (quiet t) halted
