use Rattle.std.proofs.Common.{◌≡◌, ◌≤◌, false, take}
use Rattle.fsim_ports.specs.Sink.{grown}
use Rattle.mono_model.specs.declared.setup.Setup.{Setup}
use Rattle.inorder_machine.specs.Cycle.{inorder}
use Rattle.inorder_machine.specs.Setup.{IsInorder}
use Rattle.inorder_machine.specs.Split.{InorderSplit}
use Rattle.inorder_laws.specs.SplitLaw.{IsInorderReached}
use Rattle.inorder_model.specs.Core.{IsInorderUnderWay, InorderSplitStandsFor}
use Rattle.fast_jobs.proofs.early.play_inorder_pieces.Given as goal

-- it stands for a later state, and so many bytes of the whole output were put
abbrev pub invariant-loop : goal.invariant-loop
invariant-loop g l = record {
  count : g.K.Sink.faults l.initial.sink ≤ g.K.Sink.faults l.sink;
  going : l.core.is_reported ≡ false;
  on : (s : Setup) (x : InorderSplit) → IsInorder s → IsInorderReached s x → InorderSplitStandsFor s x l.initial.core → IsInorderUnderWay s l.core;
  written : (s : Setup) (x : InorderSplit) → IsInorder s → IsInorderReached s x → InorderSplitStandsFor s x l.initial.core
      → g.K.Sink.written l.sink ≡ grown (g.K.Sink.written l.initial.sink) (take l.put (inorder s s.cycles).machine.arch.output);
}
