use Rattle.std.proofs.Common.{◌≡◌, take, drop}
use Rattle.std.specs.Vec.Iter.{into_iter_items}
use Rattle.fast_jobs.specs.SweepFiles.{named_machines}
use Rattle.fast_jobs.proofs.sweep_files.named_machines.Given as goal

abbrev pub invariant-loop-name : goal.invariant-loop-name
invariant-loop-name l = record {
  named : l.list.items ≡ named_machines (take l.name-index l.names) (into_iter_items l.initial.contents);
  left : into_iter_items l.contents ≡ drop l.name-index (into_iter_items l.initial.contents);
}
