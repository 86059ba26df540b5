use Rattle.rv_exec.proofs.DivisionLaw.{divides_signed}
use Rattle.rv_exec.proofs.law.division_law.Goals as goal

pub returns-clause-signed : goal.returns-clause-signed
returns-clause-signed c = divides_signed c.args.a c.args.b c.ranges.a.fits c.ranges.b.fits
