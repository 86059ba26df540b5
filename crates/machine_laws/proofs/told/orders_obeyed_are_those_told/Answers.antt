use Rattle.machine_laws.proofs.OrderSteps.{told_at_commit, told_small}
use Rattle.machine_laws.proofs.told.orders_obeyed_are_those_told.Goals as goal

pub returns-clause-at_commit : goal.returns-clause-at_commit
returns-clause-at_commit c = told_at_commit

pub returns-clause-small : goal.returns-clause-small
returns-clause-small c = told_small
