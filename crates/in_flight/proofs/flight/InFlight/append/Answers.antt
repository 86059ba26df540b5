use Rattle.std.proofs.Common.{refl}
use Rattle.in_flight.proofs.Changes.{appended_keeps}
use Rattle.in_flight.proofs.flight.InFlight.append.Goals as goal

pub invariant_of-self : goal.invariant_of-self
invariant_of-self c = appended_keeps _ c.self.invariant refl c.append_known.ensures.appended c.append_known.ensures.stations c.append_known.ensures.stores
