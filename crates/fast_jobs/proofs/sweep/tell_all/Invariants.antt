use Rattle.std.proofs.Common.{◌≤◌, ◌*◌, List, ◌++◌, length, map, All, Option}
use Rattle.std.specs.Vec.Iter.{into_iter_items, into_iter_len}
use Rattle.mono_model.specs.declared.final_state.Final.{Final}
use Rattle.report_text.specs.declared.status.Status.{Status}
use Rattle.fast_jobs.specs.SweepFiles.{AreTold, HasLine, HasSets}
use Rattle.fast_jobs.proofs.sweep.tell_all.Given as goal

-- with what is told of the machines that are left, all are told
abbrev pub invariant-loop-machines : goal.invariant-loop-machines
invariant-loop-machines g l = record {
  told : (refusals : List (Option Status)) (finals : List Final) → AreTold l.files l.machines refusals finals
      → AreTold l.files l.files.machines (l.told.refusals.items ++ refusals) (l.told.finals.items ++ finals);
  lines : All HasLine l.told.refusals.items;
  sets : HasSets (length l.machines) (map g.D.Device.kind (into_iter_items l.devices));
  count : 3 * length l.machines ≤ into_iter_len l.devices;
}

abbrev pub decreases-loop-machines : goal.decreases-loop-machines
decreases-loop-machines g l = length l.machines
