-- The turns of the in-order machine's timing side.
use Rattle.std.specs.Prelude.{if◌then◌else◌, List, []}
use Rattle.rollback_cmds.specs.declared.order.Order.{Order}
use Rattle.rollback_cmds.specs.declared.order.Order.TheVariants.{Stop}
use Rattle.trace_entry.specs.declared.Entry.{Entry}
use Rattle.mono_model.specs.declared.setup.Setup.{Setup}
use Rattle.mono_model.specs.Final.{has_ended}
use Rattle.timing_side.specs.Timing.{Timing, quiet, ordering}
use Rattle.timing_side.specs.Fetch.{timing_try}
use Rattle.timing_side.specs.Turn.{timing_end_of_cycle}
use Rattle.inorder_machine.specs.Demand.{InorderAt, interrupting, writing, accessing, executing, issuing, trying, ending, stopping, halted}
use Rattle.inorder_side.specs.Timing.{InorderTiming, InorderPhase, keeping}
use Rattle.inorder_side.specs.Phases.{timing_inorder_interrupt, timing_inorder_write, timing_inorder_memory, timing_inorder_execute}
use Rattle.inorder_side.specs.Issue.{timing_inorder_issue, timing_inorder_may_fetch}

-- A turn: the state behind it, the turn that comes next, and the orders that it makes, the newest first.
pub record InorderTurned : Type 0 where
  pub inorder : InorderTiming
  pub at : InorderAt
  pub orders : List Order

abbrev pub turned : InorderPhase → InorderAt → InorderTurned
turned p at = record { inorder = p.inorder; at = at; orders = p.orders }

-- the phases behind Write are left out where the run has ended
abbrev pub at_after_write : Timing → InorderAt
at_after_write t = if has_ended t.end then ending else accessing

abbrev pub at_after_issue : Timing → InorderAt
at_after_issue t = if timing_inorder_may_fetch t then trying else ending

abbrev pub at_after_end : Timing → InorderAt
at_after_end t = if has_ended t.end then stopping else interrupting

-- one turn; only the try needs the entry
unfoldable pub timing_inorder_turn : Setup → Entry → InorderAt → InorderTiming → InorderTurned
timing_inorder_turn s e interrupting l = turned (timing_inorder_interrupt l) writing
timing_inorder_turn s e writing l = let p = timing_inorder_write s l in turned p (at_after_write p.inorder.timing)
timing_inorder_turn s e accessing l = record { inorder = timing_inorder_memory l; at = executing; orders = [] }
timing_inorder_turn s e executing l = turned (timing_inorder_execute s l) issuing
timing_inorder_turn s e issuing l = let p = timing_inorder_issue s l in turned p (at_after_issue p.inorder.timing)
timing_inorder_turn s e trying l = turned (keeping (timing_try s e l.timing).phase l.memory) ending
timing_inorder_turn s e ending l =
    let behind = timing_end_of_cycle s l.timing in
    turned (keeping (quiet behind) l.memory) (at_after_end behind)
timing_inorder_turn s e stopping l = turned (keeping (ordering (Stop l.timing.to_commit) l.timing) l.memory) halted
timing_inorder_turn s e halted l = turned (keeping (quiet l.timing) l.memory) halted
