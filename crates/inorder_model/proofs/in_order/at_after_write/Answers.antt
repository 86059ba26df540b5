use Rattle.std.proofs.Common.{if◌then◌else◌, Bool, sym, ap, ◌∙◌}
use Rattle.inorder_machine.specs.Demand.{ending, accessing}
use Rattle.inorder_model.proofs.in_order.at_after_write.Goals as goal

pub returns-then-has_ended : goal.returns-then-has_ended
returns-then-has_ended c = record { at = λ s l h. ap (λ (b : Bool). if b then ending else accessing) (sym c.if-has_ended.true ∙ c.has_ended.ensures.ended s l.timing h.core) }

pub returns-else-has_ended : goal.returns-else-has_ended
returns-else-has_ended c = record { at = λ s l h. ap (λ (b : Bool). if b then ending else accessing) (sym c.if-has_ended.false ∙ c.has_ended.ensures.ended s l.timing h.core) }
