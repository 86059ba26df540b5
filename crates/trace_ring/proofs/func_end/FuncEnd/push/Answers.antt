use Rattle.trace_ring.proofs.Handing.{func_joins}
use Rattle.trace_ring.proofs.func_end.FuncEnd.push.Goals as goal

pub returns-clause-pushed : goal.returns-clause-pushed
returns-clause-pushed g c =
    func_joins c.push.result c.self.inside.entries c.push.new.self c.self.inside.orders c.args.entry c.args.self.now c.self.view_is c.push.ensures.pushed
