use Rattle.std.proofs.Common.{◌≡◌, ◌∙◌, ◌+◌, ◌<◌, ℕ, Option, Some, ap, drop, length, option_map, sym, subst, arith}
use Rattle.std.specs.Prelude.{slice_get}
use Rattle.reorder_buffer.specs.Window.{Contents}
use Rattle.inorder_side.specs.Timing.{done_count}
use Rattle.insight_model.specs.Sight.{Progress}
use Rattle.timing_core.specs.declared.state.TimingCore.{TimingCore}
use Rattle.inorder_model.specs.declared.timing.InorderTimingCore.{InorderTimingCore}
use Rattle.cycle_watch.specs.Shown.{place_of, progress_of}
use Rattle.cycle_watch.specs.SeenIn.{inorder_slot_progress, slot_outcome}
use Rattle.cycle_watch.proofs.Showing.{all_in_order, place_is, seen_in_order, there_is}
use Rattle.cycle_watch.proofs.watched.InorderSideWatched.progress.Goals as goal

pub inorder_progress-requires : goal.inorder_progress-requires
inorder_progress-requires c =
    let side = c.args.self.now in
    let same = c.flight.ensures.flight ∙ ap (λ (core : TimingCore). core.flight) c.core_of.ensures.core in
    let W : Contents → Type 0 = λ w. c.args.place < length w.slots in
    record { within = subst W (sym same) (omega (arith, c.requires.within, all_in_order side.pipeline.memory side.pipeline.core.flight.slots)) }

pub returns : goal.returns
returns c =
    let side = c.args.self.now in
    let place = c.args.place in
    let slots = side.pipeline.core.flight.slots in
    let memory = side.pipeline.memory in
    let same = c.flight.ensures.flight ∙ ap (λ (core : TimingCore). core.flight) c.core_of.ensures.core in
    let kept : c.pipeline.result.now.memory ≡ memory = ap (λ (p : InorderTimingCore). p.memory) c.pipeline.ensures.pipeline in
    let within : place < length slots = omega (arith, c.requires.within, all_in_order memory slots) in
    let found = there_is slots place within in
    let slot = found.0 in
    let come = c.inorder_progress.ensures.progress slot (slot_outcome slot) (ap (λ (w : Contents). slice_get w.slots place) same ∙ found.1) in
    record {
      progress = ap (option_map progress_of) (seen_in_order memory slots place slot found.1)
          ∙ (λ i. Some (place_of (inorder_slot_progress (sym kept i) (done_count (drop (place + 1) (sym same i).slots)) slot.state (slot_outcome slot))))
          ∙ ap (λ (p : Progress). Some (place_of p)) (sym come)
          ∙ ap Some (place_is c.inorder_progress.result (slot_outcome slot));
    }
