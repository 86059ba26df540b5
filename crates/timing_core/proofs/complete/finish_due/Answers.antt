use Rattle.std.proofs.Common.{arith}
use Rattle.timing_core.proofs.Finishing.{completed_all}
use Rattle.timing_core.proofs.complete.finish_due.Goals as goal

pub returns-then-len-eq0-clause-all : goal.returns-then-len-eq0-clause-all
returns-then-len-eq0-clause-all c = completed_all c.args.cycle 0 c.args.flight.now.slots (omega (arith, c.len.ensures.count, c.if-len-eq0.true))
