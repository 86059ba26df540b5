use Rattle.rv_exec.proofs.ProductLaw.{halves_signed, halves_mixed}
use Rattle.rv_exec.proofs.law.product_law.Goals as goal

pub returns-clause-signed : goal.returns-clause-signed
returns-clause-signed c = halves_signed c.args.a c.args.b c.ranges.a.fits c.ranges.b.fits

pub returns-clause-mixed : goal.returns-clause-mixed
returns-clause-mixed c = halves_mixed c.args.a c.args.b c.ranges.a.fits c.ranges.b.fits
