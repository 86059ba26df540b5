use Rattle.std.proofs.Common.{ℕ, Bool, ap, ◌∙◌, arith}
use Rattle.reservation_stations.specs.PlaceSet.{has}
use Rattle.in_flight.proofs.Operands.{sought_there}
use Rattle.in_flight.proofs.flight.InFlight.is_sought.Goals as goal

pub returns-then-place-le192 : goal.returns-then-place-le192
returns-then-place-le192 c =
    let place = c.args.place in
    record {
      sought = c.has_first.ensures.first ∙ ap (has c.among.result) c.among.ensures.from ∙ c.among.ensures.all place (omega arith) (omega arith)
          ∙ ap (λ (test : ℕ → Bool). test place) (sought_there c.args.sought _ _ _ c.self.invariant.stations_are c.self.view_is);
    }
