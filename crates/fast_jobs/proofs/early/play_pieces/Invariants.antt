use Rattle.std.proofs.Common.{◌≡◌, ◌≤◌, false, true, take}
use Rattle.fsim_ports.specs.Sink.{grown}
use Rattle.mono_model.specs.declared.setup.Setup.{Setup}
use Rattle.mono_model.specs.Setup.{is_setup}
use Rattle.mono_model.specs.Cycle.{mono}
use Rattle.mono_model.specs.Split.{Split}
use Rattle.machine_laws.specs.Reached.{IsReached}
use Rattle.split_core.specs.Standing.{IsUnderWay, SplitStandsFor}
use Rattle.fast_jobs.proofs.early.play_pieces.Given as goal

-- it stands for a later state, and so many bytes of the whole output were put
abbrev pub invariant-loop : goal.invariant-loop
invariant-loop g l = record {
  count : g.K.Sink.faults l.initial.sink ≤ g.K.Sink.faults l.sink;
  going : l.core.is_reported ≡ false;
  on : (s : Setup) (x : Split) → is_setup s ≡ true → IsReached s x → SplitStandsFor s x l.initial.core → IsUnderWay s l.core;
  written : (s : Setup) (x : Split) → is_setup s ≡ true → IsReached s x → SplitStandsFor s x l.initial.core
      → g.K.Sink.written l.sink ≡ grown (g.K.Sink.written l.initial.sink) (take l.put (mono s s.cycles).arch.output);
}
