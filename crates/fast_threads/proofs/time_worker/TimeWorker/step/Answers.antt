use Rattle.std.proofs.Common.{◌∙◌, refl, ap}
use Rattle.time_model.specs.declared.turn.Turn.TheVariants.{Moved, Want, CycleEnd}
use Rattle.fast_threads.specs.Workers.{TimeWork}
use Rattle.fast_threads.proofs.Timing.{run_tells, run_moves, run_halts, time_same}
use Rattle.fast_threads.proofs.time_worker.TimeWorker.step.Goals as goal

pub invariant_of-self : goal.invariant_of-self
invariant_of-self g c =
    let old = c.self.inside in
    let is = c.self.invariant in
    run_tells old.end old.side c.run.new.self old.hand old.is_halted c.run.result (ap (λ (w : TimeWork). w.hand) c.self.view_is ∙ c.requires.none) is
    c.run.ensures.made c.in-Ordered.order c.in-Ordered.is

pub invariant_of-self-in-Halted : goal.invariant_of-self-in-Halted
invariant_of-self-in-Halted g c =
    let old = c.self.inside in
    let is = c.self.invariant in
    let over = run_halts old.end old.side c.run.new.self old.hand old.is_halted c.run.result (ap (λ (w : TimeWork). w.hand) c.self.view_is ∙ c.requires.none) is c.run.ensures.made c.in-Halted.is in
    let flushed = c.flush in
    time_same _ flushed.new.self c.run.new.self old.hand _ over flushed.ensures.flushed

pub invariant_of-self-in-Moved : goal.invariant_of-self-in-Moved
invariant_of-self-in-Moved g c =
    let old = c.self.inside in
    let is = c.self.invariant in
    run_moves old.end old.side c.run.new.self old.hand old.is_halted c.run.result (ap (λ (w : TimeWork). w.hand) c.self.view_is ∙ c.requires.none) is
    c.run.ensures.made Moved c.in-Moved.is refl

pub invariant_of-self-in-Want : goal.invariant_of-self-in-Want
invariant_of-self-in-Want g c =
    let old = c.self.inside in
    let is = c.self.invariant in
    run_moves old.end old.side c.run.new.self old.hand old.is_halted c.run.result (ap (λ (w : TimeWork). w.hand) c.self.view_is ∙ c.requires.none) is
    c.run.ensures.made Want c.in-Want.is refl

pub invariant_of-self-in-CycleEnd : goal.invariant_of-self-in-CycleEnd
invariant_of-self-in-CycleEnd g c =
    let old = c.self.inside in
    let is = c.self.invariant in
    run_moves old.end old.side c.run.new.self old.hand old.is_halted c.run.result (ap (λ (w : TimeWork). w.hand) c.self.view_is ∙ c.requires.none) is
    c.run.ensures.made CycleEnd c.in-CycleEnd.is refl
