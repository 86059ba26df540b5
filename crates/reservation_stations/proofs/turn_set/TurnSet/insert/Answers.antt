use Rattle.std.proofs.Common.{rules}
use Rattle.reservation_stations.proofs.Words.{is_set-with}
use Rattle.reservation_stations.proofs.turn_set.TurnSet.insert.Goals as goal

pub returns : goal.returns
returns c = record { inserted = λ turn is. is_set-with c.args.self.now.words turn c.args.at is c.requires.within (search rules) }
