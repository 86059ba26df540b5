use Rattle.std.proofs.Common.{◌≡◌, ◌∙◌, ℕ, ◌+◌, ◌-◌, ◌%◌, ◌<◌, List, length, drop, ap, subst, arith}
use Rattle.reservation_stations.specs.AreTables.{row_at, stations_at}
use Rattle.reservation_stations.specs.Turns.{indices_from}
use Rattle.reservation_stations.specs.Places.{AreTurned}
use Rattle.reservation_stations.specs.AreSets.{AreSetsOf}
use Rattle.reservation_stations.proofs.Kept.{seen}
use Rattle.reservation_stations.proofs.Leaving.{is_first, first_keeps, retire_some, retire_within, retire_counted, AreTables-retired, seen-retired}
use Rattle.reservation_stations.proofs.Entering.{all_few}
use Rattle.reservation_stations.proofs.Turns.{length-indices, indices_retired}
use Rattle.reservation_stations.proofs.Places.{turned_retired}
use Rattle.reservation_stations.proofs.OfStations.{AreSets-retired}
use Rattle.reservation_stations.proofs.stations.Stations.retire_unfinished.Goals as goal

pub index-requires : goal.index-requires
index-requires c = omega (arith, c.self.inside.rows.ok, retire_within c.self.invariant.0 c.self.view_is c.args.index c.requires.oldest)

pub retire-requires : goal.retire-requires
retire-requires c = record {
  inside = omega (
    arith,
    retire_within c.self.invariant.0 c.self.view_is c.args.index c.requires.oldest,
    c.self.inside.sets.dependents.ok,
    c.self.invariant.2.every_index,
  );
}

pub uncounted-self-inside-requires : goal.uncounted-self-inside-requires
uncounted-self-inside-requires c = record {
  counted = retire_counted c.self.invariant.0 c.self.view_is c.args.index c.requires.oldest c.index.result.now c.index.ensures;
}

pub overflow_sub-self : goal.overflow_sub-self
overflow_sub-self c =
    omega (arith, retire_some c.self.invariant.0 c.self.view_is c.args.index c.requires.oldest, length-indices c.self.inside.at_turn c.self.inside.retired c.self.inside.count)

pub invariant_of-self : goal.invariant_of-self
invariant_of-self c =
    let items = c.self.inside.at_turn in
    let retired = c.self.inside.retired in
    let count = c.self.inside.count in
    let indices = indices_from items retired count in
    let index = c.args.index in
    let rows = c.self.inside.rows.items in
    let rest = drop 1 indices in
    let row = c.index.result.now in
    let first = is_first c.self.invariant.0 c.self.view_is index c.requires.oldest in
    let keeps = first_keeps c.self.invariant.0 c.self.view_is index c.requires.oldest in
    let some : 0 < count = omega (arith, retire_some c.self.invariant.0 c.self.view_is index c.requires.oldest, length-indices items retired count) in
    let now : indices_from items ((retired + 1) % 256) (count - 1) ≡ rest = indices_retired items retired count some in
    let few : length rest < 256 = omega (arith, all_few c.self.invariant.0, ap length first) in
    let old = subst (λ (xs : List ℕ). AreSetsOf (length rows) retired (stations_at (row_at rows) xs) c.self.inside.sets) first c.self.invariant.2 in
    let turned = turned_retired retired index rest rows (subst (λ (xs : List ℕ). AreTurned retired xs rows) first c.self.invariant.1) (omega arith) in
    rw now (
      AreTables-retired c.self.invariant.0 c.self.view_is index c.requires.oldest row c.index.ensures c.drop_producer.new.producers
          c.uncounted-self-inside.result c.drop_producer.ensures.dropped c.drop_producer.ensures.apart c.uncounted-self-inside.ensures.left,
      turned,
      AreSets-retired index rest rows keeps retired (omega arith) few (c.retire.ensures.retired (length rows) _ _ _ old),
      c.self.invariant.3,
    )

pub returns : goal.returns
returns c =
    let items = c.self.inside.at_turn in
    let retired = c.self.inside.retired in
    let count = c.self.inside.count in
    let rows = c.self.inside.rows.items in
    let some : 0 < count = omega (arith, retire_some c.self.invariant.0 c.self.view_is c.args.index c.requires.oldest, length-indices items retired count) in
    record {
      retired = ap (λ xs. seen (length rows) xs rows) (indices_retired items retired count some) ∙ seen-retired c.self.invariant.0 c.self.view_is c.args.index c.requires.oldest;
    }
