use Rattle.side_laws.proofs.Goes.{along_start, along_produced, along_obeyed}
use Rattle.side_laws.proofs.along.functional_side_goes_along.Goals as goal

pub returns-clause-start : goal.returns-clause-start
returns-clause-start g c = along_start

pub returns-clause-produced : goal.returns-clause-produced
returns-clause-produced g c = along_produced

pub returns-clause-obeyed : goal.returns-clause-obeyed
returns-clause-obeyed g c = along_obeyed
