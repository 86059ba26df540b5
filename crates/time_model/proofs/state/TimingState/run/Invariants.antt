use Rattle.time_model.specs.Running.{Steps}
use Rattle.time_model.specs.Standing.{IsStanding}
use Rattle.time_model.proofs.Running.{HasRun}
use Rattle.time_model.proofs.state.TimingState.run.Given as goal

abbrev pub invariant-loop-left : goal.invariant-loop-left
invariant-loop-left g l = HasRun (Steps g.P.Pipeline.piped) (IsStanding g.P.Pipeline.piped) l.fn.strides l.left l.fn.self l.self

-- how many strides the run may still make
abbrev pub decreases-loop-left : goal.decreases-loop-left
decreases-loop-left g l = l.left
