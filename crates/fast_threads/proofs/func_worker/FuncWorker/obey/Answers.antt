use Rattle.std.proofs.Common.{◌∙◌, sym, subst}
use Rattle.func_model.specs.Walk.{entry_if}
use Rattle.trace_ring.specs.Orders.{IsInPlace}
use Rattle.fast_threads.specs.Workers.{FuncWork, HasGoneOn}
use Rattle.fast_threads.proofs.Functional.{if_some, on_some, func_may_obey, func_opened, func_obeyed, func_goes_on}
use Rattle.fast_threads.proofs.func_worker.FuncWorker.obey.Goals as goal

pub obey-requires : goal.obey-requires
obey-requires g c =
    let old = c.self.inside in
    let may = func_may_obey old.end old.side (entry_if old.is_computed old.entry) c.self.invariant c.in-Some.order (if_some _ _ (IsInPlace old.end.setup old.end.taken) c.in-Some.is c.next.ensures.order) in
    record { reach = may.reach; from = may.from; room = may.room; number = may.number; position = may.position; epoch = may.epoch; within = may.within }

pub invariant_of-self-then-opens_epoch : goal.invariant_of-self-then-opens_epoch
invariant_of-self-then-opens_epoch g c =
    let old = c.self.inside in
    func_opened old.end old.side (entry_if old.is_computed old.entry) c.self.invariant c.in-Some.order (if_some _ _ (IsInPlace old.end.setup old.end.taken) c.in-Some.is c.next.ensures.order)
    c.obey.new.self c.obey.ensures.stands c.obey.ensures.moved c.next.new.self (on_some _ _ _ c.in-Some.is c.next.ensures.taken)
    (sym c.opens_epoch.ensures.all_but_commit ∙ c.if-opens_epoch.true)

pub invariant_of-self-else-opens_epoch : goal.invariant_of-self-else-opens_epoch
invariant_of-self-else-opens_epoch g c =
    let old = c.self.inside in
    func_obeyed old.end old.side (entry_if old.is_computed old.entry) c.self.invariant c.in-Some.order (if_some _ _ (IsInPlace old.end.setup old.end.taken) c.in-Some.is c.next.ensures.order)
    c.obey.new.self c.obey.ensures.stands c.obey.ensures.moved c.next.new.self (on_some _ _ _ c.in-Some.is c.next.ensures.taken)
    (sym c.opens_epoch.ensures.all_but_commit ∙ c.if-opens_epoch.false)

pub returns-then-opens_epoch-clause-kept : goal.returns-then-opens_epoch-clause-kept
returns-then-opens_epoch-clause-kept g c = record {
  on = λ os on.
      let old = c.self.inside in
      func_goes_on old.end old.side (entry_if old.is_computed old.entry) c.self.invariant c.in-Some.order (if_some _ _ (IsInPlace old.end.setup old.end.taken) c.in-Some.is c.next.ensures.order)
      c.obey.new.self c.obey.ensures.stands c.obey.ensures.moved c.next.new.self (on_some _ _ _ c.in-Some.is c.next.ensures.taken)
      os (subst (λ (w : FuncWork _). HasGoneOn w.setup w.obeyed w.side os) (sym c.self.view_is) on);
}

pub returns-else-opens_epoch-clause-kept : goal.returns-else-opens_epoch-clause-kept
returns-else-opens_epoch-clause-kept g c = record {
  on = λ os on.
      let old = c.self.inside in
      func_goes_on old.end old.side (entry_if old.is_computed old.entry) c.self.invariant c.in-Some.order (if_some _ _ (IsInPlace old.end.setup old.end.taken) c.in-Some.is c.next.ensures.order)
      c.obey.new.self c.obey.ensures.stands c.obey.ensures.moved c.next.new.self (on_some _ _ _ c.in-Some.is c.next.ensures.taken)
      os (subst (λ (w : FuncWork _). HasGoneOn w.setup w.obeyed w.side os) (sym c.self.view_is) on);
}
