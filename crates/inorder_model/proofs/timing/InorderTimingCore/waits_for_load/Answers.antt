use Rattle.std.proofs.Common.{◌≡◌, ◌-◌, ◌&&◌, not, Bool, ap, sym, ◌∙◌, arith}
use Rattle.std.specs.Prelude.{slice_get}
use Rattle.reorder_buffer.specs.declared.slot.Slot.{Slot}
use Rattle.reorder_buffer.specs.Window.{Contents}
use Rattle.mono_model.specs.Found.{destination_in}
use Rattle.timing_side.specs.Slots.{found_in}
use Rattle.in_flight.specs.Flight.{reads_from}
use Rattle.inorder_model.proofs.Deciding.{load_read, both_there}
use Rattle.inorder_model.proofs.timing.InorderTimingCore.waits_for_load.Goals as goal

pub returns-then-is_load : goal.returns-then-is_load
returns-then-is_load c =
    let place = c.args.place in
    let slot = c.args.slot.now in
    let writer = c.at.result in
    let core = c.args.self.now.core in
    let flight = c.flight-flight.ensures.flight in
    let here = ap (λ (f : Contents). slice_get f.slots place) flight ∙ c.requires.there in
    let there = ap (λ (f : Contents). slice_get f.slots (place - 1)) (sym flight) ∙ c.at.ensures.slot in
    let loads = sym c.if-is_load.true ∙ c.is_load.ensures.load in
    let reads = both_there (λ (x y : Slot). c.reads_from.result ≡ reads_from (found_in x) (destination_in (found_in y))) _ _ slot writer here c.at.ensures.slot c.reads_from.ensures.reads in
    record {
      waits = reads ∙ ap (λ (b : Bool). b && reads_from (found_in slot) (destination_in (found_in writer))) loads
          ∙ sym (load_read c.args.self.now.memory core.flight.slots place slot writer (c.is_none.ensures ∙ ap not c.if-is_none.false) (omega (arith, c.if-place-eq0.false)) there);
    }

pub returns-else-is_load : goal.returns-else-is_load
returns-else-is_load c =
    let place = c.args.place in
    let slot = c.args.slot.now in
    let writer = c.at.result in
    let core = c.args.self.now.core in
    let there = ap (λ (f : Contents). slice_get f.slots (place - 1)) (sym c.flight-flight.ensures.flight) ∙ c.at.ensures.slot in
    let loads = sym c.if-is_load.false ∙ c.is_load.ensures.load in
    record {
      waits = c.if-is_load.false ∙ ap (λ (b : Bool). b && reads_from (found_in slot) (destination_in (found_in writer))) loads
          ∙ sym (load_read c.args.self.now.memory core.flight.slots place slot writer (c.is_none.ensures ∙ ap not c.if-is_none.false) (omega (arith, c.if-place-eq0.false)) there);
    }
