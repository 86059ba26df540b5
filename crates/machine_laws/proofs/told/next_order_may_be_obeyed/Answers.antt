use Rattle.machine_laws.proofs.NextOrder.{may_obey_next}
use Rattle.machine_laws.proofs.told.next_order_may_be_obeyed.Goals as goal

pub returns : goal.returns
returns c = record { next = may_obey_next }
