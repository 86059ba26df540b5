use Rattle.mono_model.specs.Split.{split_start}
use Rattle.machine_laws.proofs.SplitReached.{start_reached}
use Rattle.sweep_runs.proofs.Last.{last_of-ended}
use Rattle.sweep_runs.proofs.job.play.Goals as goal

pub returns : goal.returns
returns g c =
    let s = c.args.job.setup in
    let sound = c.requires.sound in
    let ended = c.to_end.ensures.ended s (split_start s) sound (start_reached s) c.in_ok-core.ensures.stands in
    record {
      last = last_of-ended s ended.split c.committed.result ended.reached ended.boundary ended.machine
          (c.committed.ensures.reported s ended.split sound ended.reached ended.stands ended.boundary);
    }
