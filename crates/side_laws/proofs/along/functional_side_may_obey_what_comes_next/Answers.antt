use Rattle.side_laws.proofs.Obeying.{may_obey}
use Rattle.side_laws.proofs.along.functional_side_may_obey_what_comes_next.Goals as goal

pub returns-clause-obeys : goal.returns-clause-obeys
returns-clause-obeys g c = may_obey
