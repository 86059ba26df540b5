use Rattle.func_model.proofs.Going.{Backing}
use Rattle.func_model.proofs.walk.Walk.go_back.Given as goal

abbrev pub invariant-loop-self : goal.invariant-loop-self
invariant-loop-self g l = Backing l.n l.fn.self l.self

abbrev pub decreases-loop-self : goal.decreases-loop-self
decreases-loop-self g l = l.self.position
