use Rattle.trace_ring.proofs.Handing.{time_gives}
use Rattle.trace_ring.proofs.time_end.TimeEnd.next.Goals as goal

pub returns-clause-taken : goal.returns-clause-taken
returns-clause-taken g c =
    time_gives c.next.result c.self.inside.orders c.self.inside.entries c.next.new.self c.args.self.now c.self.view_is c.next.ensures.taken
