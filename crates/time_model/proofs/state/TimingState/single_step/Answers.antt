use Rattle.std.proofs.Common.{sym, subst}
use Rattle.time_model.specs.Running.{Steps}
use Rattle.time_model.specs.Turns.{untold_by}
use Rattle.time_model.proofs.state.TimingState.single_step.Goals as goal

pub returns-then-ends-clause-made : goal.returns-then-ends-clause-made
returns-then-ends-clause-made g c =
    subst (λ e. Steps g.P.Pipeline.piped c.args.self.now c.step.new.self (untold_by e)) (sym c.if-ends.ensures.ends) c.in_default.ensures.made

pub returns-else-ends-clause-made : goal.returns-else-ends-clause-made
returns-else-ends-clause-made g c =
    subst (λ e. Steps g.P.Pipeline.piped c.args.self.now c.step.new.self (untold_by e)) (sym c.if-ends.ensures.ends) c.in_default.ensures.made
