use Rattle.std.proofs.Common.{◌≡◌, ◌≢◌, ◌+◌, ◌++◌, ◌∷◌, [], ℕ, suc, List, length, map, take, Some, None, Ok, Err, true, ap, sym, ◌∙◌, subst, arith, length-append}
use Rattle.std.proofs.Math.Seq.{take-suc}
use Rattle.std.specs.Vec.Iter.{into_iter_items, into_iter_len}
use Rattle.report_text.specs.declared.status.Status.{Status}
use Rattle.report_text.specs.declared.status.Status.TheVariants.{Memory}
use Rattle.report_text.specs.SweepText.{is_sweep_refusal}
use Rattle.sweep_runs.specs.declared.job.Job.{Job}
use Rattle.fast_jobs.specs.declared.sweep.Batch.{Batch}
use Rattle.fast_jobs.specs.SweepFiles.{HasSets, machine_setup}
use Rattle.fast_jobs.proofs.Sweeps.{IsOpened, opened-refusal, opened-run, sets-fewer}
use Rattle.fast_jobs.proofs.sweep.open_batch.Goals as goal
use Rattle.fast_jobs.proofs.sweep.open_batch.Goals.{in-Ok+in_ok-devices-in-Ok+in_ok-push-in-Ok+in_ok-push-in-Ok-2, in-Err+in_ok-unless_memory-in-Err+in_ok-push-in-Err}

pub loop-machine-preserved : goal.loop-machine-preserved
loop-machine-preserved g c =
    let kind = g.D.Device.kind in
    let files = c.args.files.now in
    let machines = c.args.machines.now in
    let inv = c.loop-machine.invariant in
    let i = c.loop-machine.machine-index in
    let machine = c.machine-item.result in
    let batch = c.loop-machine.batch in
    let next = c.match-setup_of.batch in
    let up : i + 1 ≡ suc i = omega arith in
    let grows : take (i + 1) machines ≡ take i machines ++ machine ∷ [] =
    ap (λ (n : ℕ). take n machines) up ∙ take-suc machines i machine c.loop-machine-test.true ∙ ap (λ m. take i machines ++ m ∷ []) (sym c.machine-item.is) in
    let so_far : IsOpened kind files (take i machines) batch.refusals.items batch.jobs.items = record { told = inv.told; lines = inv.lines; sound = inv.sound; order = inv.order } in
    let before : batch.jobs.len ≡ length batch.jobs.items = batch.jobs.ok.0 in
    let after : next.jobs.len ≡ length next.jobs.items = next.jobs.ok.0 in
    elim c.match-setup_of.branch [
      | in-Ok+in_ok-devices-in-Ok+in_ok-push-in-Ok+in_ok-push-in-Ok-2 w ↦
          let job : Job g.row.D.Denot = record { setup = w.in-Ok.setup; devices = w.in_ok-devices-in-Ok.devices } in
          let refusals : next.refusals.items ≡ batch.refusals.items ++ None ∷ [] = ap (λ (b : Batch g.row.D.Denot). b.refusals.items) w.batch-is ∙ w.in_ok-push-in-Ok-2.ensures.pushed in
          let jobs : next.jobs.items ≡ batch.jobs.items ++ job ∷ [] = ap (λ (b : Batch g.row.D.Denot). b.jobs.items) w.batch-is ∙ w.in_ok-push-in-Ok.ensures.pushed in
          let made = subst (λ (bytes : List ℕ). machine_setup files bytes ≡ Ok w.in-Ok.setup) c.as_slice.ensures.same w.in-Ok.ensures.setup in
          let opened : IsOpened kind files (take (i + 1) machines) next.refusals.items next.jobs.items =
          opened-run kind files (take i machines) (take (i + 1) machines) batch.refusals.items next.refusals.items batch.jobs.items next.jobs.items machine job grows refusals jobs so_far made w.in-Ok.ensures.sound w.in_ok-devices-in-Ok.ensures.order in
          let many : length next.jobs.items ≡ length batch.jobs.items + 1 = ap length jobs ∙ length-append batch.jobs.items (job ∷ []) in
          let devices : into_iter_len c.match-setup_of.devices ≡ into_iter_len w.take_set.new.devices = ap into_iter_len w.devices-is in
          let taken : into_iter_len w.take_set.new.devices + 3 ≡ into_iter_len c.loop-machine.devices = w.in_ok-devices-in-Ok.ensures.count in
          record {
            told = opened.told;
            lines = opened.lines;
            sound = opened.sound;
            order = opened.order;
            few = omega (arith, before, after, many, inv.few);
            sets = λ k has. subst (λ devices. HasSets k (map kind (into_iter_items devices))) (sym w.devices-is)
                (w.in_ok-devices-in-Ok.ensures.left k (inv.sets (k + 1) (sets-fewer (i + 1 + k) (i + (k + 1)) (map kind (into_iter_items c.args.devices.now)) (omega arith) has)));
            count = omega (arith, devices, taken, inv.count);
          }
      | in-Err+in_ok-unless_memory-in-Err+in_ok-push-in-Err w ↦
          let status : Status = w.in_ok-unless_memory-in-Err.field-0 in
          let same : status ≡ w.in-Err.refusal = w.in_ok-unless_memory-in-Err.ensures.same in
          let other : w.in-Err.refusal ≢ Memory = λ memory. w.in_ok-unless_memory-in-Err.ensures.other (same ∙ memory) in
          let refusals : next.refusals.items ≡ batch.refusals.items ++ Some status ∷ [] = ap (λ (b : Batch g.row.D.Denot). b.refusals.items) w.batch-is ∙ w.in_ok-push-in-Err.ensures.pushed in
          let jobs : next.jobs.items ≡ batch.jobs.items = ap (λ (b : Batch g.row.D.Denot). b.jobs.items) w.batch-is in
          let refused = subst (λ (bytes : List ℕ). machine_setup files bytes ≡ Err w.in-Err.refusal) c.as_slice.ensures.same (w.in-Err.ensures.setup other) ∙ ap Err (sym same) in
          let line = subst (λ (s : Status). is_sweep_refusal s ≡ true) (sym same) (w.in-Err.ensures.line other) in
          let opened : IsOpened kind files (take (i + 1) machines) next.refusals.items next.jobs.items =
          opened-refusal kind files (take i machines) (take (i + 1) machines) batch.refusals.items next.refusals.items batch.jobs.items next.jobs.items machine status grows refusals jobs so_far refused line in
          let many : length next.jobs.items ≡ length batch.jobs.items = ap length jobs in
          let devices : into_iter_len c.match-setup_of.devices ≡ into_iter_len c.loop-machine.devices = ap into_iter_len w.devices-is in
          record {
            told = opened.told;
            lines = opened.lines;
            sound = opened.sound;
            order = opened.order;
            few = omega (arith, before, after, many, inv.few);
            sets = λ k has. subst (λ devices. HasSets k (map kind (into_iter_items devices))) (sym w.devices-is)
                (sets-fewer (k + 1) k (map kind (into_iter_items c.loop-machine.devices)) (omega arith)
                (inv.sets (k + 1) (sets-fewer (i + 1 + k) (i + (k + 1)) (map kind (into_iter_items c.args.devices.now)) (omega arith) has)));
            count = omega (arith, devices, inv.count);
          }
    ]
