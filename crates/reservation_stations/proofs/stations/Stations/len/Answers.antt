use Rattle.std.proofs.Common.{sym, ap, ◌∙◌, arith}
use Rattle.reservation_stations.specs.Readiness.{Window}
use Rattle.reservation_stations.proofs.Entering.{all_room}
use Rattle.reservation_stations.proofs.Turns.{length-indices}
use Rattle.reservation_stations.proofs.Reading.{all_within, all_distinct, length_seen}
use Rattle.reservation_stations.proofs.stations.Stations.len.Goals as goal

pub returns-clause-count : goal.returns-clause-count
returns-clause-count c = sym (length_seen c.self.invariant.0 c.self.view_is ∙ length-indices c.self.inside.at_turn c.self.inside.retired c.self.inside.count)

pub returns-clause-room : goal.returns-clause-room
returns-clause-room c = omega (arith, length_seen c.self.invariant.0 c.self.view_is, all_room c.self.invariant.0, ap (λ (w : Window). w.capacity) c.self.view_is)

pub returns-clause-limit : goal.returns-clause-limit
returns-clause-limit c = omega (arith, c.self.invariant.0.limit, ap (λ (w : Window). w.capacity) c.self.view_is)

pub returns-clause-within : goal.returns-clause-within
returns-clause-within c = all_within c.self.invariant.0 c.self.view_is

pub returns-clause-distinct : goal.returns-clause-distinct
returns-clause-distinct c = all_distinct c.self.invariant.0 c.self.view_is
