use Rattle.std.proofs.Common.{rules}
use Rattle.trace_ring.proofs.CountSteps.{reads}
use Rattle.trace_ring.proofs.count.Reader.read.Goals as goal

pub load-requires : goal.load-requires
load-requires c = (search rules, search rules, reads _ _ _ c.self.invariant.2)
