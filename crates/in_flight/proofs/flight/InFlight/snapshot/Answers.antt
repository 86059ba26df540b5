use Rattle.in_flight.proofs.Operands.{sought_there}
use Rattle.in_flight.proofs.Snapshots.{whole}
use Rattle.in_flight.proofs.flight.InFlight.snapshot.Goals as goal

pub returns : goal.returns
returns c = record {
  all = whole _ _ c.among.result (sought_there c.args.sought _ _ _ c.self.invariant.stations_are c.self.view_is) c.among.ensures.all c.among.ensures.others;
}
