use Rattle.std.proofs.Common.{if◌then◌else◌, Bool, sym, ap, ◌∙◌}
use Rattle.inorder_machine.specs.Demand.{trying, ending}
use Rattle.inorder_model.proofs.in_order.at_after_issue.Goals as goal

pub returns-then-may_fetch : goal.returns-then-may_fetch
returns-then-may_fetch c = record { at = λ s l h. ap (λ (b : Bool). if b then trying else ending) (sym c.if-may_fetch.true ∙ c.may_fetch.ensures.may s l h) }

pub returns-else-may_fetch : goal.returns-else-may_fetch
returns-else-may_fetch c = record { at = λ s l h. ap (λ (b : Bool). if b then trying else ending) (sym c.if-may_fetch.false ∙ c.may_fetch.ensures.may s l h) }
