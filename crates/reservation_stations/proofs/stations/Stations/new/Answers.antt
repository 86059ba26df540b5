use Rattle.std.proofs.Common.{ℕ, [], sym, subst}
use Rattle.std.proofs.lemmas.List.{length-replicate}
use Rattle.reservation_stations.specs.AreSets.{AreSetsOf}
use Rattle.reservation_stations.proofs.Entering.{own_tables}
use Rattle.reservation_stations.proofs.Places.{Keeps_none}
use Rattle.reservation_stations.proofs.OfStations.{AreSets-none}
use Rattle.reservation_stations.proofs.stations.Stations.new.Goals as goal

pub invariant_of-result : goal.invariant_of-result
invariant_of-result c =
    let items = c.in-Ok.ensures.items_if_clones_equal (λ y is. is) in
    rw (items, c.none.ensures.none) (
      own_tables (Keeps_none c.args.capacity c.free.result c.requires.limit),
      λ p s there. absurd cc,
      subst (λ n. AreSetsOf n 0 [] c.in_ok-sets.sets) (sym (length-replicate c.args.capacity c.free.result)) (AreSets-none c.in_ok-sets.ensures.empty),
      length-replicate {A = ℕ} 256 0,
    )
