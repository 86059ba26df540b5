use Rattle.std.proofs.Common.{if◌then◌else◌, Bool, sym, ap, ◌∙◌}
use Rattle.mono_model.specs.Demand.{stopping, interrupting}
use Rattle.time_model.proofs.out_of_order.at_after_cycle.Goals as goal

pub returns-then-has_ended : goal.returns-then-has_ended
returns-then-has_ended c = record { at = λ s t h. ap (λ (b : Bool). if b then stopping else interrupting) (sym c.if-has_ended.true ∙ c.has_ended.ensures.ended s t h) }

pub returns-else-has_ended : goal.returns-else-has_ended
returns-else-has_ended c = record { at = λ s t h. ap (λ (b : Bool). if b then stopping else interrupting) (sym c.if-has_ended.false ∙ c.has_ended.ensures.ended s t h) }
