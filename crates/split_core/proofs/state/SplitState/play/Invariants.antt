use Rattle.std.proofs.Common.{take}
use Rattle.split_core.proofs.Playing.{Played}
use Rattle.split_core.proofs.state.SplitState.play.Given as goal

abbrev pub invariant-loop-event : goal.invariant-loop-event
invariant-loop-event g l = Played g.T.Timing.timed (take l.event-index l.events) l.fn.self l.self
