use Rattle.func_model.proofs.Running.{Invariant}
use Rattle.func_model.proofs.contents.Contents.alone.Given as goal

abbrev pub invariant-loop-made : goal.invariant-loop-made
invariant-loop-made g l = Invariant l.limit l.from l.to l.taken l.made l.interrupts l.fn.self l.self
