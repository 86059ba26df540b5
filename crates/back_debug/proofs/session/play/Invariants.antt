use Rattle.std.proofs.Common.{◌≤◌}
use Rattle.mono_model.specs.declared.setup.Setup.{Setup}
use Rattle.func_model.specs.Trail.{TrailStandsFor}
use Rattle.back_debug.proofs.Sessions.{Played}
use Rattle.back_debug.proofs.session.play.Given as goal

abbrev pub invariant-loop-command : goal.invariant-loop-command
invariant-loop-command g l = record {
  count : g.K.Sink.faults l.fn.sink ≤ g.K.Sink.faults l.sink;
  played : (s : Setup) → TrailStandsFor s l.fn.debugger → Played s l.command-items l.fn.debugger l.debugger l.command-index (g.K.Sink.written l.fn.sink) (g.K.Sink.written l.sink);
}
