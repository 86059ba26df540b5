use Rattle.std.proofs.Common.{rules, arith}
use Rattle.reservation_stations.proofs.PlaceBits.{first_is, none_from, none_past}
use Rattle.reservation_stations.proofs.place_set.PlaceSet.first_from.Goals as goal

pub returns-then-skipped-ge64-clause-none : goal.returns-then-skipped-ge64-clause-none
returns-then-skipped-ge64-clause-none c =
    none_past c.args.self.now.from c.args.self.now.word c.args.place c.from.result c.saturating_sub-skipped.result (omega arith) (omega arith) (search rules) (omega (arith, c.if-skipped-ge64.true))

pub returns-then-rest-eq0-clause-none : goal.returns-then-rest-eq0-clause-none
returns-then-rest-eq0-clause-none c =
    none_from c.args.self.now.from c.args.self.now.word c.args.place c.from.result c.saturating_sub-skipped.result (omega arith) (omega arith) (omega (arith, c.if-rest-eq0.true))

pub returns-clause-found : goal.returns-clause-found
returns-clause-found c = (first_is c.args.self.now.from c.args.self.now.word c.args.place c.from-2.result c.saturating_sub-skipped.result (omega arith) (omega arith) (search rules) (omega (arith, c.if-rest-eq0.false))).found

pub returns-clause-first : goal.returns-clause-first
returns-clause-first c = (first_is c.args.self.now.from c.args.self.now.word c.args.place c.from-2.result c.saturating_sub-skipped.result (omega arith) (omega arith) (search rules) (omega (arith, c.if-rest-eq0.false))).first
