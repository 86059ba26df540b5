use Rattle.std.proofs.Common.{rules}
use Rattle.reservation_stations.proofs.Words.{is_set-out}
use Rattle.reservation_stations.proofs.turn_set.TurnSet.take_out.Goals as goal

pub returns : goal.returns
returns c = record { taken = is_set-out c.args.self.now.words c.args.other.now.words (search rules) (λ k. search rules) }
