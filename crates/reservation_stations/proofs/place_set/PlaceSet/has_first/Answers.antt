use Rattle.reservation_stations.proofs.PlaceBits.{lowest_there}
use Rattle.reservation_stations.proofs.place_set.PlaceSet.has_first.Goals as goal

pub returns : goal.returns
returns c = record { first = lowest_there c.args.self.now.from c.args.self.now.word }
