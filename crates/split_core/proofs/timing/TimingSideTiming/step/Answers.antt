use Rattle.split_core.proofs.Sides.{steps_on}
use Rattle.split_core.proofs.timing.TimingSideTiming.step.Goals as goal

pub returns : goal.returns
returns g c = record { made = steps_on g.P.Pipeline.piped g.met.P.Pipeline.laws g.P.Bounded.rounds c.args.self.now c.step.new.self c.step.result c.step.ensures.made }
