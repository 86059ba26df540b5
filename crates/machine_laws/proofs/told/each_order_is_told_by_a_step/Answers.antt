use Rattle.machine_laws.proofs.OrderSteps.{order_told_at, order_told_behind}
use Rattle.machine_laws.proofs.told.each_order_is_told_by_a_step.Goals as goal

pub returns-clause-at : goal.returns-clause-at
returns-clause-at c = order_told_at

pub returns-clause-behind : goal.returns-clause-behind
returns-clause-behind c = order_told_behind
