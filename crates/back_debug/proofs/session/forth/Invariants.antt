use Rattle.std.proofs.Common.{◌-◌}
use Rattle.mono_model.specs.declared.setup.Setup.{Setup}
use Rattle.func_model.specs.Trail.{TrailStandsFor}
use Rattle.back_debug.proofs.Sessions.{Going}
use Rattle.back_debug.proofs.session.forth.Given as goal

abbrev pub invariant-loop : goal.invariant-loop
invariant-loop g l = (s : Setup) → TrailStandsFor s l.fn.debugger → Going l.fn.debugger l.debugger l.steps (l.steps - l.counter) s
