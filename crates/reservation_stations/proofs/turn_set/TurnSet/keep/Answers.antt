use Rattle.std.proofs.Common.{rules}
use Rattle.reservation_stations.proofs.Words.{is_set-both}
use Rattle.reservation_stations.proofs.turn_set.TurnSet.keep.Goals as goal

pub returns : goal.returns
returns c = record { kept = is_set-both c.args.self.now.words c.args.other.now.words (search rules) (search rules) }
