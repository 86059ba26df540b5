use Rattle.std.proofs.Common.{◌∙◌, sym, subst}
use Rattle.func_model.specs.Walk.{entry_if}
use Rattle.fast_threads.specs.Workers.{FuncWork}
use Rattle.fast_threads.specs.Session.{HoldsEnd}
use Rattle.fast_threads.proofs.Functional.{func_holds_end}
use Rattle.fast_threads.proofs.func_worker.FuncWorker.stopped.Goals as goal

pub returns : goal.returns
returns g c = record {
  over = λ is.
      let old = c.self.inside in
      subst (λ (w : FuncWork _). HoldsEnd w.setup w.side.contents) c.self.view_is
      (func_holds_end old.end old.side (entry_if old.is_computed old.entry) c.self.invariant (sym c.stopped.ensures.stopped ∙ is));
}
