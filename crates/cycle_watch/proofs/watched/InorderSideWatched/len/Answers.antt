use Rattle.std.proofs.Common.{◌∙◌, ap, length, sym}
use Rattle.reorder_buffer.specs.Window.{Contents}
use Rattle.timing_core.specs.declared.state.TimingCore.{TimingCore}
use Rattle.cycle_watch.proofs.Showing.{all_in_order}
use Rattle.cycle_watch.proofs.watched.InorderSideWatched.len.Goals as goal

pub returns : goal.returns
returns c =
    let side = c.args.self.now in
    record {
      count = c.len.ensures.count
          ∙ ap (λ (w : Contents). length w.slots) (c.flight.ensures.flight ∙ ap (λ (core : TimingCore). core.flight) c.core_of.ensures.core)
          ∙ sym (all_in_order side.pipeline.memory side.pipeline.core.flight.slots);
    }
