use Rattle.std.proofs.Common.{◌≡◌, ◌∙◌, ◌+◌, ◌<◌, ℕ, Option, Some, ap, drop, length, sym, subst, arith}
use Rattle.std.specs.Prelude.{slice_get}
use Rattle.reorder_buffer.specs.Window.{Contents}
use Rattle.inorder_side.specs.Timing.{done_count}
use Rattle.insight_model.specs.Sight.{Progress}
use Rattle.timing_core.specs.declared.state.TimingCore.{TimingCore}
use Rattle.inorder_model.specs.declared.timing.InorderTimingCore.{InorderTimingCore}
use Rattle.cycle_watch.specs.SeenIn.{inorder_slot_progress, slot_as, slot_outcome}
use Rattle.cycle_watch.proofs.Showing.{all_in_order, seen_in_order}
use Rattle.cycle_watch.proofs.watched.InorderSideWatched.shown.Goals as goal

pub inorder_progress-progress-requires : goal.inorder_progress-progress-requires
inorder_progress-progress-requires c =
    let side = c.args.self.now in
    let same = c.flight-flight.ensures.flight ∙ ap (λ (core : TimingCore). core.flight) c.core_of.ensures.core in
    let W : Contents → Type 0 = λ w. c.args.place < length w.slots in
    record { within = subst W (sym same) (omega (arith, c.requires.within, all_in_order side.pipeline.memory side.pipeline.core.flight.slots)) }

pub slot_at-requires : goal.slot_at-requires
slot_at-requires c =
    let side = c.args.self.now in
    let same = c.flight-flight.ensures.flight ∙ ap (λ (core : TimingCore). core.flight) c.core_of.ensures.core in
    let W : Contents → Type 0 = λ w. c.args.place < length w.slots in
    record { within = subst W (sym same) (omega (arith, c.requires.within, all_in_order side.pipeline.memory side.pipeline.core.flight.slots)) }

pub returns : goal.returns
returns c =
    let side = c.args.self.now in
    let place = c.args.place in
    let slots = side.pipeline.core.flight.slots in
    let memory = side.pipeline.memory in
    let same = c.flight-flight.ensures.flight ∙ ap (λ (core : TimingCore). core.flight) c.core_of.ensures.core in
    let kept : c.pipeline.result.now.memory ≡ memory = ap (λ (p : InorderTimingCore). p.memory) c.pipeline.ensures.pipeline in
    let slot = c.slot_at.result in
    let there : slice_get slots place ≡ Some slot = ap (λ (w : Contents). slice_get w.slots place) (sym same) ∙ c.slot_at.ensures.slot in
    let come = c.inorder_progress-progress.ensures.progress slot (slot_outcome slot) c.slot_at.ensures.slot in
    record {
      shown = seen_in_order memory slots place slot there
          ∙ (λ i. Some (slot_as slot (inorder_slot_progress (sym kept i) (done_count (drop (place + 1) (sym same i).slots)) slot.state (slot_outcome slot))))
          ∙ ap (λ (p : Progress). Some (slot_as slot p)) (sym come)
          ∙ ap Some (sym c.shown_of.ensures.shown);
    }
