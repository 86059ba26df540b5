use Rattle.std.proofs.Common.{◌≡◌, ◌∙◌, ℕ, ◌<◌, Option, Some, ap, length, map, option_map, sym, subst, arith}
use Rattle.std.specs.Prelude.{slice_get}
use Rattle.std.proofs.lemmas.List.{length-map}
use Rattle.std.proofs.lemmas.Option.{slice_get-map}
use Rattle.reorder_buffer.specs.Window.{Contents}
use Rattle.reorder_buffer.specs.declared.slot.Slot.{Slot}
use Rattle.insight_model.specs.Sight.{Progress}
use Rattle.timing_core.specs.declared.state.TimingCore.{TimingCore}
use Rattle.cycle_watch.specs.SeenIn.{slot_as, slot_outcome, slot_shown}
use Rattle.cycle_watch.proofs.watched.TimeSideWatched.shown.Goals as goal

pub slot_at-slot-requires : goal.slot_at-slot-requires
slot_at-slot-requires c =
    let slots = c.args.self.now.pipeline.flight.slots in
    let same = c.flight.ensures.flight ∙ ap (λ (core : TimingCore). core.flight) c.core_of.ensures.core in
    let W : Contents → Type 0 = λ w. c.args.place < length w.slots in
    record { within = subst W (sym same) (omega (arith, c.requires.within, length-map slots slot_shown)) }

pub returns : goal.returns
returns c =
    let slots = c.args.self.now.pipeline.flight.slots in
    let same = c.flight.ensures.flight ∙ ap (λ (core : TimingCore). core.flight) c.core_of.ensures.core in
    let slot = c.slot_at-slot.result in
    let there : slice_get slots c.args.place ≡ Some slot = ap (λ (w : Contents). slice_get w.slots c.args.place) (sym same) ∙ c.slot_at-slot.ensures.slot in
    record {
      shown = slice_get-map slot_shown slots c.args.place ∙ ap (option_map slot_shown) there
          ∙ ap (λ (p : Progress). Some (slot_as slot p)) (sym (c.progress_of.ensures.progress (slot_outcome slot)))
          ∙ ap Some (sym c.shown_of.ensures.shown);
    }
