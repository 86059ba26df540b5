use Rattle.std.proofs.Common.{◌≡◌, ◌∙◌, ap, subst}
use Rattle.mono_model.specs.Cycle.{mono}
use Rattle.fast_threads.specs.Workers.{TimeWork}
use Rattle.fast_threads.proofs.Timing.{time_over, end_at_end}
use Rattle.fast_threads.proofs.time_worker.TimeWorker.end.Goals as goal

pub returns : goal.returns
returns c = record {
  end = λ is.
      let old = c.self.inside in
      subst (λ (w : TimeWork). c.end.result ≡ (mono w.setup w.setup.cycles).end) c.self.view_is
      (end_at_end old.end old.side old.hand
      (time_over old.end old.side old.hand old.is_halted (ap (λ (w : TimeWork). w.is_halted) c.self.view_is ∙ is) c.self.invariant) c.end.result c.end.ensures.end);
}
