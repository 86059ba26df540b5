use Rattle.split_core.proofs.OnDemand.{OnDemand}
use Rattle.split_core.proofs.state.SplitState.play_on_demand.Given as goal

abbrev pub invariant-loop : goal.invariant-loop
invariant-loop g l = OnDemand g.T.Timing.timed l.fn.self l.self
