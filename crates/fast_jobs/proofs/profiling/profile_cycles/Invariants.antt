use Rattle.mono_model.specs.Setup.{caches_params}
use Rattle.cycle_watch.specs.Profiled.{IsProfileOf}
use Rattle.fast_jobs.proofs.Watching.{HasLooked, cycles_of}
use Rattle.fast_jobs.proofs.profiling.profile_cycles.Given as goal

-- it stands where the next cycle starts, and those before were looked at and profiled
abbrev pub invariant-loop : goal.invariant-loop
invariant-loop g l = record {
  starts : g.M.Played.plays.starts l.setup l.counter l.core;
  looked : HasLooked g.M.Played.plays.pipeline l.setup l.counter l.profiling.heads;
  profiled : IsProfileOf l.setup.image (caches_params l.setup.params) g.M.Played.plays.pipeline (cycles_of g.M.Played.plays.pipeline l.setup l.counter) l.profiling;
}
