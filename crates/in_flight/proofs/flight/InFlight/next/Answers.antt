use Rattle.std.proofs.Common.{arith}
use Rattle.in_flight.proofs.Snapshots.{left_behind}
use Rattle.in_flight.proofs.flight.InFlight.next.Goals as goal

pub returns-clause-left : goal.returns-clause-left
returns-clause-left c = left_behind _ c.args.snapshot.now c.take_first.new.self c.max.result c.first.result (omega (arith, c.max.ensures)) c.in_default.ensures.none c.in_default.ensures.kept c.first.ensures.behind
