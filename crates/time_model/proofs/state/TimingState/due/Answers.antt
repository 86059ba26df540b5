use Rattle.std.proofs.Common.{None}
use Rattle.time_model.specs.Turning.{placed}
use Rattle.time_model.proofs.Sides.{owed_due}
use Rattle.time_model.proofs.state.TimingState.due.Goals as goal

pub returns-in-Some-clause-due : goal.returns-in-Some-clause-due
returns-in-Some-clause-due g c = λ s k allowed h.
    owed_due g.P.Pipeline.piped g.met.P.Pipeline.laws s k (placed c.args.next.now c.args.self.now) h c.in-Some.order None c.one.result c.requires.goes c.in-Some.is c.one.ensures.one
