use Rattle.std.proofs.Common.{◌≡◌, ℕ, ◌≤◌, ◌+◌, ◌*◌, take, map, All, vec_len}
use Rattle.std.specs.Vec.Iter.{into_iter_items, into_iter_len}
use Rattle.device_bus.specs.Bus.{device_order}
use Rattle.fast_jobs.specs.SweepFiles.{AreTold, HasLine, HasSets, IsSoundOn, last_on}
use Rattle.fast_jobs.proofs.sweep.open_batch.Given as goal

-- what holds of all machines at the end, of those that were opened
abbrev pub invariant-loop-machine : goal.invariant-loop-machine
invariant-loop-machine g l = record {
  told : AreTold l.files (take l.machine-index l.machines) l.batch.refusals.items (map (λ job. last_on l.files.pipeline job.setup) l.batch.jobs.items);
  lines : All HasLine l.batch.refusals.items;
  sound : All (λ job. IsSoundOn l.files.pipeline job.setup) l.batch.jobs.items;
  order : All (λ job. map g.D.Device.kind job.devices.items ≡ device_order) l.batch.jobs.items;
  few : vec_len l.batch.jobs ≤ l.machine-index;
  sets : (k : ℕ) → HasSets (l.machine-index + k) (map g.D.Device.kind (into_iter_items l.initial.devices))
      → HasSets k (map g.D.Device.kind (into_iter_items l.devices));
  count : into_iter_len l.initial.devices ≤ into_iter_len l.devices + 3 * l.machine-index;
}
