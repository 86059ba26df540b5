-- What the functional side has committed of the output is the beginning of the run's.
use Rattle.std.proofs.Common.{ℕ, ◌≤◌, List, ap, subst}
use Rattle.mono_model.specs.declared.setup.Setup.{Setup}
use Rattle.mono_model.specs.Path.{path}
use Rattle.machine_laws.specs.Output.{GrowsTo}
use Rattle.machine_laws.proofs.SplitGrowing.{committed_begins}
use Rattle.inorder_machine.specs.InorderMachine.{InorderMachine}
use Rattle.inorder_machine.specs.Cycle.{inorder}
use Rattle.inorder_machine.specs.Split.{InorderSplit}
use Rattle.inorder_laws.specs.SplitLaw.{IsInorderReached}
use Rattle.inorder_laws.proofs.Halting.{run_halts}
use Rattle.inorder_laws.proofs.Laws.{inorder_laws}
use Rattle.inorder_laws.proofs.SplitRun.{reached_inorder_run}

pub inorder_split_begins : (s : Setup) (x : InorderSplit) → 1 ≤ s.cycles → 4 ≤ s.params.core_window → IsInorderReached s x
    → GrowsTo (path s x.split.obeyed x.split.committed_number).output (inorder s s.cycles).machine.arch.output
inorder_split_begins s x limited room reached =
    subst (λ (b : List ℕ). GrowsTo (path s x.split.obeyed x.split.committed_number).output b)
    (ap (λ (l : InorderMachine). l.machine.arch.output) (run_halts s limited).state)
    (committed_begins (inorder_laws s room) limited x.split (reached_inorder_run s x room reached).law)
