use Rattle.std.proofs.Common.{rules, arith}
use Rattle.reservation_stations.proofs.PlaceBits.{taken_is}
use Rattle.reservation_stations.proofs.place_set.PlaceSet.take_first.Goals as goal

pub returns-clause-found : goal.returns-clause-found
returns-clause-found c = (taken_is c.args.self.now.from c.args.self.now.word c.from.result c.from.ensures (search rules) (omega (arith, c.if-self-eq0.false))).found

pub returns-clause-first : goal.returns-clause-first
returns-clause-first c = (taken_is c.args.self.now.from c.args.self.now.word c.from.result c.from.ensures (search rules) (omega (arith, c.if-self-eq0.false))).first

pub returns-clause-removed : goal.returns-clause-removed
returns-clause-removed c = (taken_is c.args.self.now.from c.args.self.now.word c.from.result c.from.ensures (search rules) (omega (arith, c.if-self-eq0.false))).removed
