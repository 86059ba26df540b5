use Rattle.std.proofs.Common.{rules, arith}
use Rattle.trace_ring.proofs.LineSteps.{opens}
use Rattle.trace_ring.proofs.ends.line.Goals as goal

pub another-takes-requires-clause-rule : goal.another-takes-requires-clause-rule
another-takes-requires-clause-rule g c = opens g.L.Law.allows g.K.Named.setup _ _ (search rules)
