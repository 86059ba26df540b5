use Rattle.machine_laws.proofs.LastOrder.{all_orders}
use Rattle.machine_laws.proofs.last_order.list_of_orders_ends_in_stop.Goals as goal

pub returns-clause-all : goal.returns-clause-all
returns-clause-all c = all_orders
