use Rattle.std.proofs.Common.{ap, ◌∙◌, sym, subst}
use Rattle.func_model.specs.Walk.{entry_if}
use Rattle.fast_threads.specs.Workers.{FuncWork, HasGoneOn}
use Rattle.fast_threads.proofs.Functional.{func_may_produce, func_with, func_computed, func_stays_on}
use Rattle.fast_threads.proofs.func_worker.FuncWorker.compute.Goals as goal

pub produce_into-self-inside-requires : goal.produce_into-self-inside-requires
produce_into-self-inside-requires g c =
    let old = c.self.inside in
    let may = func_may_produce old.end old.side (entry_if old.is_computed old.entry) c.self.invariant in
    record { position = may.position; epoch = may.epoch }

pub invariant_of-self : goal.invariant_of-self
invariant_of-self g c =
    let old = c.self.inside in
    let made = c.produce_into-self-inside in
    func_computed old.end old.side
    (func_with old.end old.side (entry_if old.is_computed old.entry) _ (ap (λ (w : FuncWork _). w.computed) c.self.view_is ∙ c.requires.none) c.self.invariant)
    made.new.self (entry_if made.result made.new.to) made.ensures.produced made.ensures.moved made.ensures.none made.ensures.same

pub invariant_of-self-else-self : goal.invariant_of-self-else-self
invariant_of-self-else-self g c =
    let old = c.self.inside in
    let made = c.produce_into-self-inside in
    func_computed old.end old.side
    (func_with old.end old.side (entry_if old.is_computed old.entry) _ (ap (λ (w : FuncWork _). w.computed) c.self.view_is ∙ c.requires.none) c.self.invariant)
    made.new.self (entry_if made.result made.new.to) made.ensures.produced made.ensures.moved made.ensures.none made.ensures.same

pub returns-then-self-clause-kept : goal.returns-then-self-clause-kept
returns-then-self-clause-kept g c = record {
  on = λ os on.
      let old = c.self.inside in
      let made = c.produce_into-self-inside in
      func_stays_on old.end.setup old.end.taken old.side made.new.self (entry_if made.result made.new.to) made.ensures.produced made.ensures.moved made.ensures.none made.ensures.same
      os (subst (λ (w : FuncWork _). HasGoneOn w.setup w.obeyed w.side os) (sym c.self.view_is) on);
}

pub returns-else-self-clause-kept : goal.returns-else-self-clause-kept
returns-else-self-clause-kept g c = record {
  on = λ os on.
      let old = c.self.inside in
      let made = c.produce_into-self-inside in
      func_stays_on old.end.setup old.end.taken old.side made.new.self (entry_if made.result made.new.to) made.ensures.produced made.ensures.moved made.ensures.none made.ensures.same
      os (subst (λ (w : FuncWork _). HasGoneOn w.setup w.obeyed w.side os) (sym c.self.view_is) on);
}
