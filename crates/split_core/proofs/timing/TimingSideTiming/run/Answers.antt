use Rattle.split_core.proofs.Sides.{runs_on}
use Rattle.split_core.proofs.timing.TimingSideTiming.run.Goals as goal

pub returns : goal.returns
returns g c = record { made = runs_on g.P.Pipeline.piped g.met.P.Pipeline.laws g.P.Bounded.rounds c.args.self.now c.run.new.self c.run.result c.run.ensures.made; waiting = c.run.ensures.waiting }
