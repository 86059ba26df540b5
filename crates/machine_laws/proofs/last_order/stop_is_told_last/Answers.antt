use Rattle.machine_laws.proofs.Stopping.{stop_told, stopped_last, halted_last, halted_machine}
use Rattle.machine_laws.proofs.last_order.stop_is_told_last.Goals as goal

pub returns-clause-halts : goal.returns-clause-halts
returns-clause-halts c = stop_told

pub returns-clause-stopped : goal.returns-clause-stopped
returns-clause-stopped c = stopped_last

pub returns-clause-halted : goal.returns-clause-halted
returns-clause-halted c = halted_last

pub returns-clause-machine : goal.returns-clause-machine
returns-clause-machine c = halted_machine
