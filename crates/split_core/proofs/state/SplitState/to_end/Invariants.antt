use Rattle.split_core.proofs.Ending.{Going}
use Rattle.split_core.proofs.state.SplitState.to_end.Given as goal

abbrev pub invariant-loop : goal.invariant-loop
invariant-loop g l = Going g.T.Timing.timed l.counter l.fn.self l.self
