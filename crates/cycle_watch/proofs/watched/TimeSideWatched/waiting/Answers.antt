use Rattle.std.proofs.Common.{◌∙◌, ap, sym}
use Rattle.reorder_buffer.specs.Window.{Contents}
use Rattle.timing_core.specs.declared.state.TimingCore.{TimingCore}
use Rattle.timing_side.specs.Slots.{waiting_count}
use Rattle.cycle_watch.proofs.Showing.{waiting_shown}
use Rattle.cycle_watch.proofs.watched.TimeSideWatched.waiting.Goals as goal

pub returns : goal.returns
returns c = record {
  count = c.waiting.ensures.count
      ∙ ap (λ (w : Contents). waiting_count w.slots) (c.flight.ensures.flight ∙ ap (λ (core : TimingCore). core.flight) c.core_of.ensures.core)
      ∙ sym (waiting_shown c.args.self.now.pipeline.flight.slots);
}
