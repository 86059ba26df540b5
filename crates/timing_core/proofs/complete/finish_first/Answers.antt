use Rattle.std.proofs.Common.{ℕ, ◌+◌, take, slice_set, Some, List, ap, sym, ◌∙◌, add-one, arith}
use Rattle.reorder_buffer.specs.declared.slot.Slot.{Slot}
use Rattle.reorder_buffer.specs.Window.{Contents}
use Rattle.timing_side.specs.Complete.{finished}
use Rattle.in_flight.specs.Flight.{executes_at}
use Rattle.in_flight.proofs.Snapshots.{still, executes_behind}
use Rattle.timing_core.specs.Finishing.{completed_from}
use Rattle.timing_core.proofs.Finishing.{passes_to, finishes, redirects, due_there, first_there}
use Rattle.timing_core.proofs.complete.finish_first.Goals as goal

pub overflow_add-kept : goal.overflow_add-kept
overflow_add-kept c = omega (arith, first_there c.args.flight.now.slots c.args.place c.args.slot.now c.requires.first.there, c.requires.few)

pub returns-then-is_mispredicted-clause-all : goal.returns-then-is_mispredicted-clause-all
returns-then-is_mispredicted-clause-all c =
    let slot : Slot = c.args.slot.now in
    let place : ℕ = c.args.place in
    let slots : List Slot = c.args.flight.now.slots in
    let done = rw c.requires.first.there at c.finish.ensures.finished in
    passes_to c.args.cycle 0 place slots (omega arith) (λ k above below. c.requires.first.before k below)
    ∙ redirects c.args.cycle place slots slot c.requires.first.there (due_there c.args.cycle slot c.requires.first.due) (sym c.is_mispredicted.ensures.mispredicted ∙ c.if-is_mispredicted.true)
    ∙ ap (λ (n : ℕ). record { slots = take n (slice_set slots place (finished slot)); redirect = Some slot.next }) (sym (add-one place))
    ∙ ap (λ (f : Contents). record { slots = take (place + 1) f.slots; redirect = Some slot.next }) (sym done)

pub finish-requires-2-clause-within : goal.finish-requires-2-clause-within
finish-requires-2-clause-within c = first_there c.args.flight.now.slots c.args.place c.args.slot.now c.requires.first.there

pub finish_from-requires-clause-all : goal.finish_from-requires-clause-all
finish_from-requires-clause-all c =
    let place : ℕ = c.args.place in
    let slots : List Slot = c.args.flight.now.slots in
    let done = rw c.requires.first.there at c.finish-2.ensures.finished in
    still _ _ (place + 1) c.args.later (λ k behind. ap (λ (f : Contents). executes_at f.slots k) done ∙ executes_behind slots place (finished c.args.slot.now) k (omega (arith, behind))) c.requires.all

pub returns-clause-all : goal.returns-clause-all
returns-clause-all c =
    let slot : Slot = c.args.slot.now in
    let place : ℕ = c.args.place in
    let slots : List Slot = c.args.flight.now.slots in
    let done = rw c.requires.first.there at c.finish-2.ensures.finished in
    passes_to c.args.cycle 0 place slots (omega arith) (λ k above below. c.requires.first.before k below)
    ∙ finishes c.args.cycle place slots slot c.requires.first.there (due_there c.args.cycle slot c.requires.first.due) (sym c.is_mispredicted.ensures.mispredicted ∙ c.if-is_mispredicted.false)
    ∙ ap (λ (n : ℕ). completed_from c.args.cycle n (slice_set slots place (finished slot))) (sym (add-one place))
    ∙ ap (λ (f : Contents). completed_from c.args.cycle (place + 1) f.slots) (sym done)
    ∙ c.finish_from.ensures.all
