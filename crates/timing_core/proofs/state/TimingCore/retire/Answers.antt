use Rattle.std.proofs.Common.{◌≡◌, ◌+◌, ◌<◌, length, slice_get, Some, if◌then◌else◌, sym, subst}
use Rattle.std.proofs.lemmas.Option.{slice_get_within}
use Rattle.reorder_buffer.specs.declared.slot.Slot.{Slot}
use Rattle.reorder_buffer.specs.Window.{Contents}
use Rattle.timing_core.specs.CoreStandsFor.{CoreStandsFor}
use Rattle.timing_core.specs.Retiring.{noted, told}
use Rattle.timing_core.proofs.Sums.{counted}
use Rattle.timing_core.proofs.state.TimingCore.retire.Goals as goal

pub go-requires : goal.go-requires
go-requires c = record {
  some =
      let held : slice_get c.args.self.now.flight.slots 0 ≡ Some c.args.slot.now = c.requires.oldest in
      subst (λ (f : Contents). 0 < length f.slots) (sym c.note.ensures.flight) (slice_get_within c.args.self.now.flight.slots 0 c.args.slot.now held);
}

pub returns : goal.returns
returns c = record {
  kept = λ s t k below.
      let slot : Slot = c.args.slot.now in
      let n : CoreStandsFor s (noted s slot t) c.note.new.self = c.note.ensures.kept s t k below.branches in
      let output : c.count_if.new.count ≡ t.output + (if slot.sends then 1 else 0) = counted _ _ t.output slot.sends c.count_if.ensures.counted n.output below.output in
      c.go.ensures.kept s (told slot (noted s slot t))
      (record {
        params = n.params;
        cycle_limit = n.cycle_limit;
        output_limit = n.output_limit;
        room = n.room;
        slots = n.slots;
        predictor = n.predictor;
        caches = n.caches;
        cycle = n.cycle;
        to_commit = n.to_commit;
        resume = n.resume;
        paid = n.paid;
        counts = n.counts;
        retired = n.retired;
        output = output;
        irq_on = n.irq_on;
        cmp = n.cmp;
        end = n.end;
      })
      below.retired below.to_commit;
}
