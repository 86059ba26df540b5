use Rattle.std.proofs.Common.{rules}
use Rattle.reservation_stations.proofs.Words.{is_set-without}
use Rattle.reservation_stations.proofs.turn_set.TurnSet.remove.Goals as goal

pub returns : goal.returns
returns c = record {
  removed = λ turn is. is_set-without c.args.self.now.words turn c.args.at is c.requires.within (search rules) (search rules);
}
