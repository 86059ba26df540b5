use Rattle.std.proofs.Common.{◌≡◌, ◌<◌, ℕ, false}
use Rattle.mono_model.specs.declared.setup.Setup.{Setup}
use Rattle.mono_model.specs.Final.{has_ended}
use Rattle.fast_jobs.specs.Played.{IsPlaying, sight_at}
use Rattle.fast_jobs.proofs.tracing.play_to.Given as goal

-- it stands where the next cycle starts, and the run went on before those so far
abbrev pub invariant-loop : goal.invariant-loop
invariant-loop g l = record {
  playing : IsPlaying g.M.Played.plays l.core;
  comes : (s : Setup) → g.M.Played.plays.starts s 0 l.initial.core → g.M.Played.plays.starts s l.counter l.core × ((k : ℕ) → k < l.counter → has_ended (sight_at g.M.Played.plays.pipeline s k).end ≡ false);
}
