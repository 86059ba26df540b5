use Rattle.std.proofs.Common.{◌≡◌, ◌+◌, ◌-◌, ℕ, refl, ap, sym, ◌∙◌, arith, length, take, ◌%◌, ◌^◌, List}
use Rattle.reorder_buffer.specs.Window.{Contents}
use Rattle.reorder_buffer.specs.declared.slot.Slot.{Slot}
use Rattle.mono_model.specs.Machine as machine
use Rattle.timing_side.specs.Timing.{cut_to}
use Rattle.timing_core.proofs.Sums.{risen, removed}
use Rattle.timing_core.proofs.state.TimingCore.flush.Goals as goal

pub returns : goal.returns
unfolding cut_to
returns c = record {
  kept = λ s t k small.
      let cut : ℕ = length t.slots - length (take c.args.place t.slots) in
      let same : cut ≡ length c.args.self.now.flight.slots - c.args.place = removed t.slots c.args.place ∙ ap (λ (slots : List Slot). length slots - c.args.place) (sym k.slots) in
      let taken : c.from.result ≡ cut = c.from.ensures ∙ c.cut_to-squashed.ensures.count ∙ sym same in
      let squashed : (c.args.self.now.counts.squashed + c.from.result) % 2 ^ 64 ≡ t.counts.squashed + cut =
      risen _ _ t.counts.squashed cut (ap (λ (n : ℕ). (c.args.self.now.counts.squashed + n) % 2 ^ 64) taken)
      (ap (λ (n : machine.Counts). n.squashed) k.counts) small (omega arith) in
      record {
        params = k.params;
        cycle_limit = k.cycle_limit;
        output_limit = k.output_limit;
        room = ap (λ (f : Contents). f.capacity) c.cut_to-squashed.ensures.kept ∙ k.room;
        slots = ap (λ (f : Contents). f.slots) c.cut_to-squashed.ensures.kept ∙ ap (λ (slots : List Slot). take c.args.place slots) k.slots;
        predictor = k.predictor;
        caches = k.caches;
        cycle = k.cycle;
        to_commit = k.to_commit;
        resume = refl;
        paid = refl;
        counts = λ i. record (k.counts i) { squashed = squashed i };
        retired = k.retired;
        output = k.output;
        irq_on = k.irq_on;
        cmp = k.cmp;
        end = k.end;
      };
}
