use Rattle.std.proofs.Common.{◌≡◌, ◌+◌, ◌%◌, ◌^◌, [], drop, List, refl, ap, ◌∙◌, arith}
use Rattle.reorder_buffer.specs.declared.slot.Slot.{Slot}
use Rattle.reorder_buffer.specs.Window.{Contents}
use Rattle.mono_model.specs.Machine as machine
use Rattle.timing_side.specs.Timing.{Timing, cut_to}
use Rattle.timing_core.proofs.Sums.{risen}
use Rattle.timing_core.proofs.Keeping.{keeps_slots, keeps_counts}
use Rattle.timing_core.proofs.state.TimingCore.fault.Goals as goal

pub returns : goal.returns
unfolding cut_to
returns c = record {
  kept = λ s t k below.
      let rest : List Slot = drop 1 t.slots in
      let left : Timing = record t { slots = rest } in
      let behind = keeps_slots s t c.args.self.now k c.leave.new.self rest (ap (λ (f : Contents). f.capacity) c.leave.ensures.left)
      (ap (λ (f : Contents). f.slots) c.leave.ensures.left ∙ ap (drop 1) k.slots) in
      let cut = c.flush.ensures.kept s left behind below.squashed in
      let f : Timing = cut_to [] left in
      let passed = c.pass.ensures.kept s f cut below.to_commit in
      let count : (c.pass.new.self.counts.exceptions + 1) % 2 ^ 64 ≡ t.counts.exceptions + 1 =
      risen _ _ t.counts.exceptions 1 refl (ap (λ (n : machine.Counts). n.exceptions) passed.counts) below.exceptions (omega arith) in
      keeps_counts s (record f { to_commit = f.to_commit + 1; irq_on = c.args.slot.now.irq_on; cmp = c.args.slot.now.cmp }) c.pass.new.self passed _ _
      (λ i. record (passed.counts i) { exceptions = count i });
}
