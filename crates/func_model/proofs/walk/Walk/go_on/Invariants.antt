use Rattle.std.proofs.Common.{◌-◌}
use Rattle.func_model.proofs.Going.{Onward}
use Rattle.func_model.proofs.walk.Walk.go_on.Given as goal

abbrev pub invariant-loop-self : goal.invariant-loop-self
invariant-loop-self g l = Onward l.n l.fn.self l.self

abbrev pub decreases-loop-self : goal.decreases-loop-self
decreases-loop-self g l = l.n - l.self.position
