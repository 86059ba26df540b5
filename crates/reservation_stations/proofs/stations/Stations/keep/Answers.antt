use Rattle.std.proofs.Common.{◌≡◌, ◌∙◌, ℕ, ◌<◌, ◌≤◌, List, length, take, reverse, ap, sym, subst, arith}
use Rattle.std.specs.Prelude.{vec_len}
use Rattle.std.proofs.lemmas.List.{take-map}
use Rattle.reservation_stations.specs.declared.station.Station.{Station}
use Rattle.reservation_stations.specs.AreSets.{AreSetsOf}
use Rattle.reservation_stations.specs.Readiness.{waiting_count}
use Rattle.reservation_stations.specs.AreTables.{AreProducers, Each, row_at, stations_at, station_in}
use Rattle.reservation_stations.specs.Turns.{indices_from}
use Rattle.reservation_stations.proofs.Indices.{Each-map, Each-take}
use Rattle.reservation_stations.proofs.Entering.{all_few}
use Rattle.reservation_stations.proofs.Kept.{seen}
use Rattle.reservation_stations.proofs.Reading.{length_seen}
use Rattle.reservation_stations.proofs.Turns.{length-indices, indices_front}
use Rattle.reservation_stations.proofs.Places.{turned_kept}
use Rattle.reservation_stations.proofs.OfStations.{AreSets-kept}
use Rattle.reservation_stations.proofs.Keeping.{AreTables-kept, seen-kept}
use Rattle.reservation_stations.proofs.stations.Stations.keep.Goals as goal

pub rename-self-inside-requires-clause-few : goal.rename-self-inside-requires-clause-few
rename-self-inside-requires-clause-few c =
    omega (
      arith,
      c.requires.within,
      length_seen c.self.invariant.0 c.self.view_is,
      all_few c.self.invariant.0,
    )

pub rename-self-inside-requires-clause-within : goal.rename-self-inside-requires-clause-within
rename-self-inside-requires-clause-within c =
    let items = c.self.inside.at_turn in
    let retired = c.self.inside.retired in
    let count = c.self.inside.count in
    let indices = indices_from items retired count in
    let few : c.args.kept ≤ count = omega (arith, c.requires.within, length_seen c.self.invariant.0 c.self.view_is, length-indices items retired count) in
    let before : ℕ → Type 0 = λ s. s < length c.self.inside.rows.items in
    let now : ℕ → Type 0 = λ s. s < vec_len c.self.inside.rows in
    subst (λ (xs : List ℕ). Each (λ s. s < vec_len c.self.inside.rows) xs) (sym (indices_front items retired c.args.kept count few))
    (Each-take now indices c.args.kept (Each-map before now (λ s below. omega (arith, below, c.self.inside.rows.ok)) indices c.self.invariant.0.within))

pub turns_from-requires : goal.turns_from-requires
turns_from-requires c = record {
  few = omega (arith, c.requires.within, length_seen c.self.invariant.0 c.self.view_is, all_few c.self.invariant.0);
}

pub invariant_of-self : goal.invariant_of-self
invariant_of-self c =
    let items = c.self.inside.at_turn in
    let retired = c.self.inside.retired in
    let count = c.self.inside.count in
    let kept = c.args.kept in
    let rows = c.self.inside.rows.items in
    let table = c.rename-self-inside.new.producers in
    let indices = indices_from items retired count in
    let few : kept ≤ count = omega (arith, c.requires.within, length_seen c.self.invariant.0 c.self.view_is, length-indices items retired count) in
    let now : indices_from items retired kept ≡ take kept indices = indices_front items retired kept count few in
    let every : length table ≡ 258 = c.rename-self-inside.ensures.every_register in
    let live = c.turns_from.result in
    let taken : take kept (stations_at (row_at rows) indices) ≡ stations_at (row_at rows) (indices_from items retired kept) =
    take-map (λ s. station_in s (row_at rows s)) kept indices ∙ ap (stations_at (row_at rows)) (sym now)
    in (
      rw now
          (AreTables-kept c.self.invariant.0 kept table c.rename-self-inside.result every c.rename-self-inside.ensures.no_source
          (subst (λ (xs : List ℕ). AreProducers table (stations_at (row_at rows) (reverse xs))) now c.rename-self-inside.ensures.renamed)
          (c.rename-self-inside.ensures.waiting ∙ ap (λ xs. waiting_count (stations_at (row_at rows) xs)) now)),
      rw now (turned_kept retired kept indices rows c.self.invariant.1),
      subst (λ (xs : List Station). AreSetsOf (length rows) retired xs c.keep.new.self) taken
          (AreSets-kept (stations_at (row_at rows) indices) retired kept live c.turns_from.ensures.those
          (c.keep.ensures.kept (length rows) _ _ _ c.self.invariant.2)),
      c.self.invariant.3,
    )

pub returns : goal.returns
returns c =
    let items = c.self.inside.at_turn in
    let retired = c.self.inside.retired in
    let count = c.self.inside.count in
    let rows = c.self.inside.rows.items in
    let few : c.args.kept ≤ count = omega (arith, c.requires.within, length_seen c.self.invariant.0 c.self.view_is, length-indices items retired count) in
    record {
      kept = ap (λ xs. seen (length rows) xs rows) (indices_front items retired c.args.kept count few)
          ∙ seen-kept (length rows) (indices_from items retired count) rows c.self.view_is c.args.kept;
    }
