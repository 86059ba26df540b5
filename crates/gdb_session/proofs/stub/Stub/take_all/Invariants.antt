use Rattle.std.proofs.Common.{◌≤◌, ℕ}
use Rattle.mono_model.specs.declared.setup.Setup.{Setup}
use Rattle.gdb_model.specs.Talk.{Talk}
use Rattle.gdb_session.specs.Talk.{TalkStandsFor}
use Rattle.gdb_session.proofs.Talks.{Taking}
use Rattle.gdb_session.proofs.stub.Stub.take_all.Given as goal

abbrev pub invariant-loop-byte : goal.invariant-loop-byte
invariant-loop-byte g l = record {
  count : g.K.Sink.faults l.fn.sink ≤ g.K.Sink.faults l.sink;
  taking : (s : Setup) (history : ℕ) (talk : Talk) → TalkStandsFor s history talk l.fn.self →
      Taking history s talk l.bytes l.byte-index (g.K.Sink.written l.fn.sink) (g.K.Sink.written l.sink) l.self;
}
