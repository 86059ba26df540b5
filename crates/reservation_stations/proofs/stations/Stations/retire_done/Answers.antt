use Rattle.std.proofs.Common.{◌≡◌, ◌∙◌, ℕ, ◌+◌, ◌-◌, ◌%◌, ◌<◌, true, List, length, drop, ap, subst, arith}
use Rattle.reservation_stations.specs.declared.station.Mark.TheVariants.{Done}
use Rattle.reservation_stations.specs.Readiness.{is_done}
use Rattle.reservation_stations.specs.AreTables.{row_at, stations_at}
use Rattle.reservation_stations.specs.Turns.{indices_from}
use Rattle.reservation_stations.specs.Places.{AreTurned}
use Rattle.reservation_stations.specs.AreSets.{AreSetsOf}
use Rattle.reservation_stations.proofs.Kept.{seen}
use Rattle.reservation_stations.proofs.Leaving.{is_first, first_keeps, retire_some, oldest_marked, oldest_row, AreTables-first_done, seen-retired}
use Rattle.reservation_stations.proofs.Entering.{all_few}
use Rattle.reservation_stations.proofs.Turns.{length-indices, indices_retired}
use Rattle.reservation_stations.proofs.Places.{turned_retired}
use Rattle.reservation_stations.proofs.OfStations.{AreSets-untold}
use Rattle.reservation_stations.proofs.stations.Stations.retire_done.Goals as goal

pub overflow_sub-self : goal.overflow_sub-self
overflow_sub-self c =
    let oldest = oldest_marked c.self.invariant.0 c.self.view_is Done c.requires.done in
    omega (arith, retire_some c.self.invariant.0 c.self.view_is oldest.0 oldest.1, length-indices c.self.inside.at_turn c.self.inside.retired c.self.inside.count)

pub invariant_of-self : goal.invariant_of-self
invariant_of-self c =
    let items = c.self.inside.at_turn in
    let retired = c.self.inside.retired in
    let count = c.self.inside.count in
    let indices = indices_from items retired count in
    let rows = c.self.inside.rows.items in
    let rest = drop 1 indices in
    let oldest = oldest_marked c.self.invariant.0 c.self.view_is Done c.requires.done in
    let index = oldest.0 in
    let first = is_first c.self.invariant.0 c.self.view_is index oldest.1 in
    let keeps = first_keeps c.self.invariant.0 c.self.view_is index oldest.1 in
    let some : 0 < count = omega (arith, retire_some c.self.invariant.0 c.self.view_is index oldest.1, length-indices items retired count) in
    let now : indices_from items ((retired + 1) % 256) (count - 1) ≡ rest = indices_retired items retired count some in
    let few : length rest < 256 = omega (arith, all_few c.self.invariant.0, ap length first) in
    let old = subst (λ (xs : List ℕ). AreSetsOf (length rows) retired (stations_at (row_at rows) xs) c.self.inside.sets) first c.self.invariant.2 in
    let turned = turned_retired retired index rest rows (subst (λ (xs : List ℕ). AreTurned retired xs rows) first c.self.invariant.1) (omega arith) in
    let done : is_done (row_at rows index).mark ≡ true = ap is_done (oldest_row c.self.invariant.0 c.self.view_is index oldest.1 Done c.requires.done) in
    rw now (
      AreTables-first_done c.self.invariant.0 c.self.view_is index oldest.1 done,
      turned,
      AreSets-untold index rest rows keeps retired (omega arith) few done old,
      c.self.invariant.3,
    )

pub returns : goal.returns
returns c =
    let items = c.self.inside.at_turn in
    let retired = c.self.inside.retired in
    let count = c.self.inside.count in
    let rows = c.self.inside.rows.items in
    let oldest = oldest_marked c.self.invariant.0 c.self.view_is Done c.requires.done in
    let some : 0 < count = omega (arith, retire_some c.self.invariant.0 c.self.view_is oldest.0 oldest.1, length-indices items retired count) in
    record {
      retired = ap (λ xs. seen (length rows) xs rows) (indices_retired items retired count some) ∙ seen-retired c.self.invariant.0 c.self.view_is oldest.0 oldest.1;
    }
