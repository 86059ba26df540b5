use Rattle.std.proofs.Common.{ap}
use Rattle.time_model.specs.Turns.{turn_told}
use Rattle.time_model.specs.Turning.{placed}
use Rattle.time_model.proofs.Sides.{due_told, stands_after}
use Rattle.time_model.proofs.state.TimingState.advance.Goals as goal

pub returns-clause-made : goal.returns-clause-made
returns-clause-made g c =
    due_told g.P.Pipeline.piped g.met.P.Pipeline.laws c.args.self.now (placed c.due-orders.new.next c.due-orders.new.self) c.due-orders.result c.tell.result c.tell.new.self c.requires.holds c.requires.goes
    c.due-orders.ensures.due (ap (λ side. side.telling.epoch) c.due-orders.ensures.others) c.tell.ensures.told c.tell.ensures.behind

pub returns-clause-standing : goal.returns-clause-standing
returns-clause-standing g c =
    stands_after g.P.Pipeline.piped g.met.P.Pipeline.laws c.args.self.now (placed c.due-orders.new.next (record c.due-orders.new.self { telling = c.tell.new.self }))
    (turn_told c.tell.result (g.P.Pipeline.piped.seen c.args.self.now.at)) c.requires.standing (returns-clause-made g c)
