use Rattle.fast_threads.proofs.Timing.{time_starts, time_same}
use Rattle.fast_threads.proofs.time_worker.TimeWorker.new.Goals as goal

pub invariant_of-result : goal.invariant_of-result
invariant_of-result c =
    time_same _ c.args.end c.in_ok-side.side _ _
    (time_starts c.args.setup.now c.in_ok-side.side c.requires.sound c.in_ok-side.ensures.stands) c.requires.end
