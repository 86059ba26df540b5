use Rattle.std.proofs.Common.{arith}
use Rattle.cache_timing.proofs.SameLine.{same_line}
use Rattle.cache_timing.proofs.last_line.LastLine.holds.Goals as goal

pub returns-clause-same : goal.returns-clause-same
returns-clause-same c = λ low.
    same_line c.args.self.now.length c.args.addr c.args.self.now.addr c.args.self.now.power (grind (arith, low))
