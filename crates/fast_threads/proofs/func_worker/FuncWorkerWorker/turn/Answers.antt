use Rattle.std.proofs.Common.{sym, subst}
use Rattle.fast_threads.specs.Workers.{FuncWork, HasGoneOn}
use Rattle.fast_threads.proofs.func_worker.FuncWorkerWorker.turn.Goals.{then-not-self, else-not-self}
use Rattle.fast_threads.proofs.func_worker.FuncWorkerWorker.turn.Goals as goal

pub returns-then-not-self-2-clause-kept : goal.returns-then-not-self-2-clause-kept
returns-then-not-self-2-clause-kept g c os on =
    let obeyed = c.obey.ensures.kept.on os on in
    let made : HasGoneOn c.if-not-self.self.setup c.if-not-self.self.obeyed c.if-not-self.self.side os = elim c.if-not-self.branch [
      | then-not-self w ↦ subst (λ (w : FuncWork _). HasGoneOn w.setup w.obeyed w.side os) (sym w.self-is) (w.compute.ensures.kept.on os obeyed)
      | else-not-self w ↦ subst (λ (w : FuncWork _). HasGoneOn w.setup w.obeyed w.side os) (sym w.self-is) obeyed
    ] in
    subst (λ (w : FuncWork _). HasGoneOn w.setup w.obeyed w.side os) (sym c.flush.ensures.same) made

pub returns-clause-kept : goal.returns-clause-kept
returns-clause-kept g c os on =
    let obeyed = c.obey.ensures.kept.on os on in
    let made : HasGoneOn c.if-not-self.self.setup c.if-not-self.self.obeyed c.if-not-self.self.side os = elim c.if-not-self.branch [
      | then-not-self w ↦ subst (λ (w : FuncWork _). HasGoneOn w.setup w.obeyed w.side os) (sym w.self-is) (w.compute.ensures.kept.on os obeyed)
      | else-not-self w ↦ subst (λ (w : FuncWork _). HasGoneOn w.setup w.obeyed w.side os) (sym w.self-is) obeyed
    ] in
    subst (λ (w : FuncWork _). HasGoneOn w.setup w.obeyed w.side os) (sym c.push.ensures.same) made
