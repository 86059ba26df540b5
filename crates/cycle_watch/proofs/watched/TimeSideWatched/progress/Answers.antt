use Rattle.std.proofs.Common.{◌≡◌, ◌∙◌, ◌<◌, Some, ap, length, option_map, sym, subst, arith}
use Rattle.std.specs.Prelude.{slice_get}
use Rattle.std.proofs.lemmas.List.{length-map}
use Rattle.std.proofs.lemmas.Option.{slice_get-map}
use Rattle.reorder_buffer.specs.Window.{Contents}
use Rattle.insight_model.specs.Sight.{Progress, Shown}
use Rattle.timing_core.specs.declared.state.TimingCore.{TimingCore}
use Rattle.cycle_watch.specs.Shown.{place_of, progress_of}
use Rattle.cycle_watch.specs.SeenIn.{slot_outcome, slot_shown}
use Rattle.cycle_watch.proofs.Showing.{place_is}
use Rattle.cycle_watch.proofs.watched.TimeSideWatched.progress.Goals as goal

pub slot_at-requires : goal.slot_at-requires
slot_at-requires c =
    let slots = c.args.self.now.pipeline.flight.slots in
    let same = c.flight.ensures.flight ∙ ap (λ (core : TimingCore). core.flight) c.core_of.ensures.core in
    let W : Contents → Type 0 = λ w. c.args.place < length w.slots in
    record { within = subst W (sym same) (omega (arith, c.requires.within, length-map slots slot_shown)) }

pub returns : goal.returns
returns c =
    let slots = c.args.self.now.pipeline.flight.slots in
    let same = c.flight.ensures.flight ∙ ap (λ (core : TimingCore). core.flight) c.core_of.ensures.core in
    let slot = c.slot_at.result in
    let there : slice_get slots c.args.place ≡ Some slot = ap (λ (w : Contents). slice_get w.slots c.args.place) (sym same) ∙ c.slot_at.ensures.slot in
    record {
      progress = ap (option_map progress_of) (slice_get-map slot_shown slots c.args.place ∙ ap (option_map slot_shown) there)
          ∙ ap (λ (p : Progress). Some (place_of p)) (sym (c.progress_of.ensures.progress (slot_outcome slot)))
          ∙ ap Some (place_is c.progress_of.result (slot_outcome slot));
    }
