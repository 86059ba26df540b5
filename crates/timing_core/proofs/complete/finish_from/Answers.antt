use Rattle.std.proofs.Common.{◌≡◌, ℕ, ◌+◌, suc, take, slice_set, length, Some, List, ap, sym, ◌∙◌, add-one, length-set, arith}
use Rattle.reorder_buffer.specs.declared.slot.Slot.{Slot}
use Rattle.reorder_buffer.specs.Window.{Contents}
use Rattle.timing_side.specs.Complete.{Completed, finished}
use Rattle.in_flight.specs.Flight.{executes_at}
use Rattle.in_flight.proofs.Snapshots.{still, executes_behind}
use Rattle.timing_core.specs.Finishing.{completed_from}
use Rattle.timing_core.proofs.Finishing.{passes, passes_to, rests_all, executes_there, finishes, redirects}
use Rattle.timing_core.proofs.complete.finish_from.Goals as goal
use Rattle.timing_core.proofs.complete.finish_from.Goals.{then-is_finishing+else-wrong, else-is_finishing}

-- what is said of `place + 1` and of the slots behind a write
moved : (cycle place : ℕ) (after : List Slot) (behind : Contents) (before : Completed) → behind.slots ≡ after →
    before ≡ completed_from cycle (suc place) after → before ≡ completed_from cycle (place + 1) behind.slots
moved cycle place after behind before is same =
    same ∙ ap (λ (n : ℕ). completed_from cycle n after) (sym (add-one place)) ∙ ap (λ (l : List Slot). completed_from cycle (place + 1) l) (sym is)

pub returns-then-wrong-clause-all : goal.returns-then-wrong-clause-all
returns-then-wrong-clause-all c =
    let slot : Slot = c.at-slot.result in
    let place : ℕ = c.in-Some.place in
    let slots : List Slot = c.loop-place.flight.slots in
    let come = passes_to c.args.cycle c.loop-place.from place slots c.in-Some.ensures.behind c.in-Some.ensures.first in
    let done = rw c.at-slot.ensures.slot at c.finish.ensures.finished in
    c.loop-place.invariant.whole ∙ come
    ∙ redirects c.args.cycle place slots slot c.at-slot.ensures.slot (sym c.is_finishing.ensures.due ∙ c.if-is_finishing.true) (sym c.is_mispredicted-wrong.ensures.mispredicted ∙ c.if-wrong.true)
    ∙ ap (λ (n : ℕ). record { slots = take n (slice_set slots place (finished slot)); redirect = Some slot.next }) (sym (add-one place))
    ∙ ap (λ (f : Contents). record { slots = take (place + 1) f.slots; redirect = Some slot.next }) (sym done)

pub loop-place-preserved : goal.loop-place-preserved
loop-place-preserved c =
    let slot : Slot = c.at-slot.result in
    let place : ℕ = c.in-Some.place in
    let slots : List Slot = c.loop-place.flight.slots in
    let come = passes_to c.args.cycle c.loop-place.from place slots c.in-Some.ensures.behind c.in-Some.ensures.first in
    elim c.if-is_finishing.branch [
      | then-is_finishing+else-wrong w ↦
          let done : c.if-is_finishing.flight ≡ record c.loop-place.flight { slots = slice_set slots place (finished slot) } =
          w.flight-is ∙ (rw c.at-slot.ensures.slot at w.finish.ensures.finished) in
          record {
            room = ap (λ (f : Contents). f.capacity) done ∙ c.loop-place.invariant.room;
            count = ap (λ (f : Contents). length f.slots) done ∙ length-set slots place (finished slot) ∙ c.loop-place.invariant.count;
            executes = still _ _ (place + 1) c.next.new.snapshot
                (λ k behind. ap (λ (f : Contents). executes_at f.slots k) done ∙ executes_behind slots place (finished slot) k (omega (arith, behind))) c.in-Some.ensures.left;
            whole =
                moved c.args.cycle place (slice_set slots place (finished slot)) c.if-is_finishing.flight (completed_from c.args.cycle c.args.start c.args.flight.now.slots) (ap (λ (f : Contents). f.slots) done)
                (c.loop-place.invariant.whole ∙ come
                ∙ finishes c.args.cycle place slots slot c.at-slot.ensures.slot (sym c.is_finishing.ensures.due ∙ w.if-is_finishing.true) (sym w.is_mispredicted-wrong.ensures.mispredicted ∙ w.if-wrong.false));
          }
      | else-is_finishing w ↦
          record {
            room = ap (λ (f : Contents). f.capacity) w.flight-is ∙ c.loop-place.invariant.room;
            count = ap (λ (f : Contents). length f.slots) w.flight-is ∙ c.loop-place.invariant.count;
            executes = still _ _ (place + 1) c.next.new.snapshot (λ k behind. ap (λ (f : Contents). executes_at f.slots k) w.flight-is) c.in-Some.ensures.left;
            whole =
                moved c.args.cycle place slots c.if-is_finishing.flight (completed_from c.args.cycle c.args.start c.args.flight.now.slots) (ap (λ (f : Contents). f.slots) w.flight-is)
                (c.loop-place.invariant.whole ∙ come ∙ passes c.args.cycle place slots slot c.at-slot.ensures.slot (sym c.is_finishing.ensures.due ∙ w.if-is_finishing.false));
          }
    ]

pub returns-clause-all : goal.returns-clause-all
returns-clause-all c =
    c.loop-place.invariant.whole ∙ rests_all c.args.cycle c.loop-place.from c.loop-place.flight.slots c.in_default.ensures.none

pub overflow_add-from : goal.overflow_add-from
overflow_add-from c =
    let within = executes_there c.loop-place.flight.slots c.in-Some.place c.in-Some.ensures.found in
    omega (arith, within, c.loop-place.invariant.count, c.requires.few)

pub overflow_add-result : goal.overflow_add-result
overflow_add-result c =
    let within = executes_there c.loop-place.flight.slots c.in-Some.place c.in-Some.ensures.found in
    omega (arith, within, c.loop-place.invariant.count, c.requires.few)

pub at-slot-requires : goal.at-slot-requires
at-slot-requires c = record { within = executes_there c.loop-place.flight.slots c.in-Some.place c.in-Some.ensures.found }
