use Rattle.std.proofs.Common.{ap}
use Rattle.split_core.proofs.Sides.{right_on}
use Rattle.split_core.proofs.timing.TimingSideTiming.take.Goals as goal

pub take-requires-clause-right : goal.take-requires-clause-right
take-requires-clause-right g c = right_on g.P.Pipeline.piped g.met.P.Pipeline.laws g.P.Bounded.rounds c.args.entry.now c.args.self.now c.requires.right

pub returns-clause-used : goal.returns-clause-used
returns-clause-used g c = λ is. ap (λ t. t.telling.held) (c.take.ensures.used is)
