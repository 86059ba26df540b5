use Rattle.std.proofs.Common.{◌≡◌, ◌&&◌, not, true, false, Some, ap, sym, ◌∙◌}
use Rattle.in_flight.specs.Flight.{older_at, may_start}
use Rattle.inorder_model.specs.Stages.{waits_for_load}
use Rattle.inorder_model.proofs.Deciding.{operands_in_order, operands_by}
use Rattle.inorder_model.proofs.timing.InorderTimingCore.has_operands.Goals as goal

pub returns-then-is_ready : goal.returns-then-is_ready
returns-then-is_ready c =
    let slot = c.args.slot.now in
    let memory = c.args.self.now.memory in
    let older = older_at c.args.self.now.core.flight.slots c.args.place in
    let ready : may_start older (Some slot) ≡ true = ap (may_start older) (sym c.requires.there) ∙ sym c.is_ready.ensures.ready ∙ c.if-is_ready.true in
    record {
      operands = λ waits.
          let has = operands_by older slot true waits ready in
          ap not c.waits_for_load.ensures.waits ∙ (λ i. sym has i && not (waits_for_load memory older slot)) ∙ sym (operands_in_order memory older slot);
    }

pub returns-else-is_ready : goal.returns-else-is_ready
returns-else-is_ready c =
    let slot = c.args.slot.now in
    let memory = c.args.self.now.memory in
    let older = older_at c.args.self.now.core.flight.slots c.args.place in
    let ready : may_start older (Some slot) ≡ false = ap (may_start older) (sym c.requires.there) ∙ sym c.is_ready.ensures.ready ∙ c.if-is_ready.false in
    record {
      operands = λ waits.
          let has = operands_by older slot false waits ready in
          c.if-is_ready.false ∙ (λ i. sym has i && not (waits_for_load memory older slot)) ∙ sym (operands_in_order memory older slot);
    }
