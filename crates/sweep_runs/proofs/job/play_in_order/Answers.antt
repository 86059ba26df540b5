use Rattle.mono_model.proofs.Sound.{setup_facts}
use Rattle.inorder_machine.specs.Split.{inorder_split_start}
use Rattle.inorder_laws.proofs.SplitRun.{start_inorder_reached}
use Rattle.sweep_runs.proofs.InorderLast.{inorder_last_of-ended, last-place}
use Rattle.sweep_runs.proofs.job.play_in_order.Goals as goal

pub returns : goal.returns
returns g c =
    let s = c.args.job.setup in
    let sound = c.requires.sound in
    let ended = c.to_end.ensures.ended s (inorder_split_start s) sound (start_inorder_reached s) c.in_ok-core.ensures.stands in
    let cycle = ended.split.place.run.demand.machine.cycle in
    record {
      last = inorder_last_of-ended s cycle c.committed.result (last-place s ended.split.place (setup_facts s sound.sound).some_cycle ended.place ended.inorder)
          (c.committed.ensures.reported s ended.split sound ended.reached ended.stands ended.boundary);
    }
