use Rattle.split_core.proofs.Playing.{Rounded}
use Rattle.split_core.proofs.state.SplitState.to_boundary.Given as goal

abbrev pub invariant-loop : goal.invariant-loop
invariant-loop g l = Rounded g.T.Timing.timed l.counter l.fn.self l.self
