use Rattle.split_core.proofs.Sides.{cycle_runs_on}
use Rattle.split_core.proofs.timing.TimingSideTiming.run_in_cycle.Goals as goal

pub returns : goal.returns
returns g c = record { made = cycle_runs_on g.P.Pipeline.piped g.met.P.Pipeline.laws g.P.Bounded.rounds c.args.self.now c.run_in_cycle.new.self c.run_in_cycle.result c.run_in_cycle.ensures.made; waiting = c.run_in_cycle.ensures.waiting }
