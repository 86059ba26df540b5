use Rattle.std.proofs.Common.{◌≡◌, ◌∙◌, ap, subst}
use Rattle.mono_model.specs.Cycle.{mono}
use Rattle.mono_model.specs.Machine.{stats_of}
use Rattle.fast_threads.specs.Workers.{TimeWork}
use Rattle.fast_threads.proofs.Timing.{time_over, stats_at_end}
use Rattle.fast_threads.proofs.time_worker.TimeWorker.stats.Goals as goal

pub returns : goal.returns
returns c = record {
  stats = λ is.
      let old = c.self.inside in
      subst (λ (w : TimeWork). c.stats.result ≡ stats_of w.setup (mono w.setup w.setup.cycles)) c.self.view_is
      (stats_at_end old.end old.side old.hand
      (time_over old.end old.side old.hand old.is_halted (ap (λ (w : TimeWork). w.is_halted) c.self.view_is ∙ is) c.self.invariant) c.stats.result c.stats.ensures.stats);
}
