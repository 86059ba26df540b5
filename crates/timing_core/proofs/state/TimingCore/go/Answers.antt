use Rattle.std.proofs.Common.{◌+◌, drop, refl, ap, ◌∙◌, arith}
use Rattle.reorder_buffer.specs.Window.{Contents}
use Rattle.timing_core.proofs.Sums.{risen}
use Rattle.timing_core.proofs.state.TimingCore.go.Goals as goal

pub returns : goal.returns
returns c = record {
  kept = λ s t k few below.
      c.pass.ensures.kept s
      (record t { slots = drop 1 t.slots; retired = t.retired + 1 })
      (record {
        params = k.params;
        cycle_limit = k.cycle_limit;
        output_limit = k.output_limit;
        room = ap (λ (f : Contents). f.capacity) c.leave.ensures.left ∙ k.room;
        slots = ap (λ (f : Contents). f.slots) c.leave.ensures.left ∙ ap (drop 1) k.slots;
        predictor = k.predictor;
        caches = k.caches;
        cycle = k.cycle;
        to_commit = k.to_commit;
        resume = k.resume;
        paid = k.paid;
        counts = k.counts;
        retired = risen _ _ t.retired 1 refl k.retired few (omega arith);
        output = k.output;
        irq_on = k.irq_on;
        cmp = k.cmp;
        end = k.end;
      })
      below;
}
