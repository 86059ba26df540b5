use Rattle.split_core.proofs.Opening.{opening_stands}
use Rattle.split_core.proofs.state.SplitState.new.Goals as goal

pub returns : goal.returns
returns g c = record {
  stands = opening_stands g.T.Timing.timed g.met.T.Timing.laws c.args.setup.now c.in_ok-func.func c.in_ok-time.time c.in-Ok.entries c.in-Ok-with_capacity.listed_orders c.most_rounds.result c.most_steps.result
      c.in_ok-func.ensures.stands c.in_ok-func.ensures.fresh c.in_ok-time.ensures.stands c.in_ok-time.ensures.empty c.in-Ok.ensures c.in-Ok-with_capacity.ensures
      c.most_rounds.ensures.rounds c.most_steps.ensures.steps;
}
