use Rattle.std.proofs.Common.{◌&&◌, ap, ◌∙◌, refl, arith}
use Rattle.reservation_stations.specs.TurnSet.{holds}
use Rattle.reservation_stations.specs.Noting.{dependents_of}
use Rattle.reservation_stations.specs.AreSets.{misses_one, misses_both, awaits}
use Rattle.reservation_stations.proofs.Missing.{kept_by}
use Rattle.reservation_stations.proofs.sets.Sets.keep.Goals as goal

pub returns : goal.returns
returns c = record {
  kept = λ n w e m sets.
      let live = c.args.live.now in
      let old = c.args.self.now in
      let each = c.keep_each.ensures.kept in
      record {
        every_index = each.every_index ∙ sets.every_index;
        waiting = λ t within. c.keep.ensures.kept t ∙ ap (λ b. b && holds live t) (sets.waiting t within);
        executing = λ t within. c.keep-2.ensures.kept t ∙ ap (λ b. b && holds live t) (sets.executing t within);
        short = λ t within. kept_by misses_one (m t) (holds live t) (holds old.short t) (holds c.keep-3.new.self t) refl (c.keep-3.ensures.kept t) (sets.short t within);
        both = λ t within. kept_by misses_both (m t) (holds live t) (holds old.both t) (holds c.keep-4.new.self t) refl (c.keep-4.ensures.kept t) (sets.both t within);
        dependents = λ t k within below. kept_by (awaits k) (m t) (holds live t) (holds (dependents_of old.dependents.items k) t)
            (holds (dependents_of c.keep_each.new.dependents.items k) t) refl (each.kept k t (omega (arith, below, sets.every_index))) (sets.dependents t k within below);
      };
}
