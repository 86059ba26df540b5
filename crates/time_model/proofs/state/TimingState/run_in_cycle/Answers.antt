use Rattle.std.proofs.Common.{sym, ◌∙◌}
use Rattle.time_model.specs.Running.{start}
use Rattle.time_model.proofs.Running.{inner_run}
use Rattle.time_model.proofs.state.TimingState.run_in_cycle.Goals as goal

pub returns-then-ends_cycle-clause-made : goal.returns-then-ends_cycle-clause-made
returns-then-ends_cycle-clause-made g c = record { behind = c.args.self.now; silent = start; last = c.single_step.ensures.made }

pub returns-in-Some-clause-made : goal.returns-in-Some-clause-made
returns-in-Some-clause-made g c = inner_run g.P.Pipeline.piped c.in-Some.ensures.told

pub returns-clause-made : goal.returns-clause-made
returns-clause-made g c = record { behind = c.stride_in_cycle.new.self; silent = c.in_default.ensures.untold; last = c.single_step-2.ensures.made }

pub stride_in_cycle-requires-clause-inner : goal.stride_in_cycle-requires-clause-inner
stride_in_cycle-requires-clause-inner g c = sym c.ends_cycle.ensures.ends ∙ c.if-ends_cycle.false
