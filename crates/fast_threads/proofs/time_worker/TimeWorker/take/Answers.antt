use Rattle.std.proofs.Common.{◌≡◌, ◌∙◌, ap}
use Rattle.trace_ring.specs.Ring.{IsNamed}
use Rattle.trace_ring.specs.Ends.{time_taken}
use Rattle.time_model.specs.OutOfOrder.{core_piped}
use Rattle.time_model.specs.Standing.{wants_in}
use Rattle.fast_threads.specs.Workers.{TimeWork}
use Rattle.fast_threads.proofs.Functional.{if_some}
use Rattle.fast_threads.proofs.Timing.{time_right, time_needs, time_takes, time_fed}
use Rattle.fast_threads.proofs.time_worker.TimeWorker.take.Goals as goal

pub feed-turn-requires-clause-right : goal.feed-turn-requires-clause-right
feed-turn-requires-clause-right g c =
    let old = c.self.inside in
    time_right old.end old.side c.in-Some.entry old.hand old.is_halted c.self.invariant
    (if_some _ _ (IsNamed old.end.setup) c.in-Some.is c.next.ensures.named)
    (ap (λ (w : TimeWork). wants_in core_piped w.side) c.self.view_is ∙ c.requires.wants)
    (c.if-entry-next_number.true ∙ c.next_number.ensures.number old.end.setup c.self.invariant.steps c.self.invariant.stands)

pub invariant_of-self-then-entry-next_number : goal.invariant_of-self-then-entry-next_number
invariant_of-self-then-entry-next_number g c =
    let old = c.self.inside in
    let needs = time_needs old.end old.side c.in-Some.entry old.hand old.is_halted c.self.invariant
    (if_some _ _ (IsNamed old.end.setup) c.in-Some.is c.next.ensures.named)
    (ap (λ (w : TimeWork). wants_in core_piped w.side) c.self.view_is ∙ c.requires.wants)
    (c.if-entry-next_number.true ∙ c.next_number.ensures.number old.end.setup c.self.invariant.steps c.self.invariant.stands) in
    time_fed old.end c.next.new.self old.side c.feed-turn.new.self c.in-Some.entry old.hand c.order-self-inside.result old.is_halted c.feed-turn.result
    (ap (λ (w : TimeWork). w.hand) c.self.view_is ∙ c.requires.none) c.self.invariant
    (if_some _ _ (λ e. c.next.new.self ≡ time_taken old.end e) c.in-Some.is c.next.ensures.taken)
    needs c.feed-turn.ensures.fed c.order-self-inside.ensures.told

pub invariant_of-self-else-entry-next_number : goal.invariant_of-self-else-entry-next_number
invariant_of-self-else-entry-next_number g c =
    let old = c.self.inside in
    time_takes old.end c.next.new.self old.side old.side c.in-Some.entry old.hand old.is_halted c.self.invariant
    (if_some _ _ (λ e. c.next.new.self ≡ time_taken old.end e) c.in-Some.is c.next.ensures.taken)
    c.self.invariant.stands
