use Rattle.std.proofs.Common.{◌≤◌}
use Rattle.fsim_ports.specs.Source.{IsPrompt}
use Rattle.gdb_session.specs.Talk.{IsServed}
use Rattle.gdb_session.proofs.Served.{Serving}
use Rattle.gdb_session.proofs.serving.serve.Given as goal

abbrev pub invariant-loop : goal.invariant-loop
invariant-loop g l = record {
  reads : g.S.Source.faults l.fn.source ≤ g.S.Source.faults l.source;
  writes : g.K.Sink.faults l.fn.sink ≤ g.K.Sink.faults l.sink;
  prompt : IsPrompt g.U.Due.due (g.S.Source.heard l.source) (g.K.Sink.written l.sink);
  served : IsServed g.U.Due.due (g.S.Source.heard l.source) l.stub;
  serving : Serving l.fn.stub l.stub (g.S.Source.heard l.fn.source) (g.S.Source.heard l.source) (g.K.Sink.written l.fn.sink) (g.K.Sink.written l.sink);
}
