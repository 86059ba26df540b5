use Rattle.trace_ring.proofs.LineSteps.{takes}
use Rattle.trace_ring.proofs.inlet.Inlet.fill.Goals as goal

pub try_pop_as-requires-clause-rule : goal.try_pop_as-requires-clause-rule
try_pop_as-requires-clause-rule g c = takes g.L.Law.allows _ _ c.self.invariant.2.takes
