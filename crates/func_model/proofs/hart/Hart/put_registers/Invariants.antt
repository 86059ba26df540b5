use Rattle.func_model.proofs.Plain.{Putting}
use Rattle.func_model.proofs.hart.Hart.put_registers.Given as goal

abbrev pub invariant-loop-left : goal.invariant-loop-left
invariant-loop-left l = Putting l.steps l.left l.initial.self l.self

abbrev pub decreases-loop-left : goal.decreases-loop-left
decreases-loop-left l = l.left
