use Rattle.std.proofs.Common.{rules}
use Rattle.time_model.specs.Running.{start}
use Rattle.time_model.proofs.Striding.{quiet_silent, silent_standing}
use Rattle.time_model.proofs.state.TimingState.pass_idle.Goals as goal

pub returns-then-is_none-clause-silent : goal.returns-then-is_none-clause-silent
returns-then-is_none-clause-silent g c =
    quiet_silent g.P.Pipeline.piped g.met.P.Pipeline.laws c.args.self.now.telling c.args.self.now.pipeline c.args.self.now.at c.pass_idle.new.self c.args.self.now.at (search rules) c.pass_idle.ensures.quiet

pub returns-then-is_none-clause-standing : goal.returns-then-is_none-clause-standing
returns-then-is_none-clause-standing g c =
    silent_standing g.P.Pipeline.piped g.met.P.Pipeline.laws c.args.self.now (record c.args.self.now { pipeline = c.pass_idle.new.self }) c.requires.standing (returns-then-is_none-clause-silent g c)

pub returns-else-ends_cycle-clause-silent : goal.returns-else-ends_cycle-clause-silent
returns-else-ends_cycle-clause-silent g c = start
