use Rattle.cache_timing.proofs.Powers.{bits_most}
use Rattle.cache_timing.proofs.number.exponent.Goals as goal

pub returns-clause-most : goal.returns-clause-most
returns-clause-most c = bits_most c.args.power c.ilog2.result c.ilog2.ensures.power_le c.requires.few
