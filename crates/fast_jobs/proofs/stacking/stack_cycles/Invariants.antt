use Rattle.cycle_watch.specs.Counted.{IsStackOf}
use Rattle.fast_jobs.proofs.Watching.{HasLooked, cycles_of}
use Rattle.fast_jobs.proofs.stacking.stack_cycles.Given as goal

-- it stands where the next cycle starts, and those before were looked at and counted
abbrev pub invariant-loop : goal.invariant-loop
invariant-loop g l = record {
  starts : g.M.Played.plays.starts l.setup l.counter l.core;
  looked : HasLooked g.M.Played.plays.pipeline l.setup l.counter l.stacking.heads;
  counted : IsStackOf g.M.Played.plays.pipeline l.setup.params (cycles_of g.M.Played.plays.pipeline l.setup l.counter) l.stacking.counts;
}
