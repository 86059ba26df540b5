use Rattle.std.proofs.Common.{◌-◌}
use Rattle.back_debug.proofs.Running.{Missing}
use Rattle.back_debug.proofs.debugger.Debugger.run_to.Given as goal

abbrev pub invariant-loop-end : goal.invariant-loop-end
invariant-loop-end g l = Missing l.addr l.fn.self l.self-inside.trail

-- how many steps the run may still make
abbrev pub decreases-loop-end : goal.decreases-loop-end
decreases-loop-end g l = l.self-inside.trail.cycles - l.self-inside.trail.at
