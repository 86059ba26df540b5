use Rattle.std.proofs.Common.{◌≡◌, ◌≤◌, ◌+◌, ◌*◌, length, map, All, sym, subst, arith}
use Rattle.std.proofs.lemmas.List.Elements.{All-append}
use Rattle.std.specs.Vec.Iter.{into_iter_items, into_iter_len}
use Rattle.fast_jobs.specs.SweepFiles.{HasLine, last_on}
use Rattle.fast_jobs.proofs.Sweeps.{sets-fewer, told-batch, told-last}
use Rattle.fast_jobs.proofs.sweep.tell_all.Goals as goal

pub loop-machines-preserved : goal.loop-machines-preserved
loop-machines-preserved g c =
    let files = c.args.files.now in
    let inv = c.loop-machines.invariant in
    let before = c.loop-machines.machines.now in
    let next = c.split_at.result.0.now in
    let rest = c.split_at.result.1.now in
    let old = c.loop-machines.told in
    let batch = c.in_ok-batch.batch in
    let new = c.run_batch.new.told in
    let parts : length before ≡ length next + length rest = omega (arith, c.split_at.ensures.front_len, c.split_at.ensures.back_len) in
    let taken : into_iter_len c.loop-machines.devices ≤ into_iter_len c.open_batch.new.devices + 3 * length next = c.in_ok-batch.ensures.count in
    let there : 3 * length before ≤ into_iter_len c.loop-machines.devices = inv.count in
    record {
      told = told-batch files files.machines before next rest old.refusals.items new.refusals.items batch.refusals.items
          old.finals.items new.finals.items (map (λ job. last_on files.pipeline job.setup) batch.jobs.items)
          c.split_at.ensures.by_index.0 c.in_ok-run_batch.ensures.refusals c.in_ok-run_batch.ensures.finals c.in_ok-batch.ensures.told inv.told;
      lines = subst (All HasLine) (sym c.in_ok-run_batch.ensures.refusals) (All-append HasLine old.refusals.items batch.refusals.items inv.lines c.in_ok-batch.ensures.lines);
      sets = c.in_ok-batch.ensures.sets (length rest)
          (sets-fewer (length before) (length next + length rest) (map g.D.Device.kind (into_iter_items c.loop-machines.devices)) (omega (arith, parts)) inv.sets);
      count = omega (arith, parts, taken, there);
    }

pub returns-clause-told : goal.returns-clause-told
returns-clause-told g c =
    let files = c.args.files.now in
    let left = c.loop-machines.machines.now in
    let none : length left ≡ 0 = grind arith in
    told-last files files.machines left c.loop-machines.told.refusals.items c.loop-machines.told.finals.items none c.loop-machines.invariant.told
