use Rattle.std.proofs.Common.{◌≡◌, true}
use Rattle.split_core.specs.Plays.{IsClear}
use Rattle.split_core.specs.InCycle.{StaysIn}
use Rattle.split_core.proofs.OnDemand.{OnDemand}
use Rattle.split_core.proofs.state.SplitState.hand_over_wanted.Given as goal

abbrev pub invariant-loop : goal.invariant-loop
invariant-loop g l = record { far : OnDemand g.T.Timing.timed l.fn.self l.self; clear : IsClear l.self; wants : g.T.Timing.timed.wants l.self.time ≡ true; inside : StaysIn g.T.Timing.timed l.fn.self l.self }
