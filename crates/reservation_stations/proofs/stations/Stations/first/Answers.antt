use Rattle.std.proofs.Common.{◌∙◌, sym, inl, inr, arith}
use Rattle.std.proofs.lemmas.Bool.{cases_lt}
use Rattle.reservation_stations.specs.Readiness.{is_sought_at}
use Rattle.reservation_stations.proofs.Turns.{length-indices}
use Rattle.reservation_stations.proofs.Entering.{all_few}
use Rattle.reservation_stations.proofs.Reading.{length_seen}
use Rattle.reservation_stations.proofs.Among.{none_before, none_past}
use Rattle.reservation_stations.proofs.stations.Stations.first.Goals as goal

pub loop-block-init : goal.loop-block-init
loop-block-init c = record { whole = omega arith; none = λ k behind ahead. absurd (omega (arith, behind, ahead)) }

pub overflow_cast-block : goal.overflow_cast-block
overflow_cast-block c = omega (arith, c.loop-block-test.true, all_few c.self.invariant.0, length-indices c.self.inside.at_turn c.self.inside.retired c.self.inside.count)

pub among-set-requires : goal.among-set-requires
among-set-requires c = record { inside = omega (arith, c.loop-block-test.true, c.loop-block.invariant.whole, all_few c.self.invariant.0, length-indices c.self.inside.at_turn c.self.inside.retired c.self.inside.count) }

pub overflow_add-block : goal.overflow_add-block
overflow_add-block c = omega (arith, c.loop-block-test.true, all_few c.self.invariant.0, length-indices c.self.inside.at_turn c.self.inside.retired c.self.inside.count)

pub loop-block-smaller : goal.loop-block-smaller
loop-block-smaller c = omega (arith, c.loop-block-test.true, all_few c.self.invariant.0, length-indices c.self.inside.at_turn c.self.inside.retired c.self.inside.count)

pub returns-in-Some-clause-first : goal.returns-in-Some-clause-first
returns-in-Some-clause-first c = λ k behind ahead. elim (cases_lt k c.loop-block.block) [
  | inl before ↦ c.loop-block.invariant.none k behind before
  | inr there ↦
      let inside = c.among-set.ensures.others c.in-Some.place c.in-Some.ensures.found in
      sym (c.among-set.ensures.all k there (omega (arith, ahead, inside.1))) ∙ c.in-Some.ensures.first k behind ahead
]

pub loop-block-preserved : goal.loop-block-preserved
loop-block-preserved c = record {
  whole = omega (arith, c.loop-block.invariant.whole);
  none = none_before (is_sought_at c.args.sought c.args.self.now.stations) c.args.from c.loop-block.block c.among-set.result
      c.loop-block.invariant.none c.among-set.ensures.all c.in_default.ensures.none;
}

pub returns-clause-none : goal.returns-clause-none
returns-clause-none c = λ k behind. elim (cases_lt k c.loop-block.block) [
  | inl before ↦ c.loop-block.invariant.none k behind before
  | inr past ↦ none_past c.args.sought c.args.self.now.stations k
      (omega (arith, past, c.loop-block-test.false, length_seen c.self.invariant.0 c.self.view_is, length-indices c.self.inside.at_turn c.self.inside.retired c.self.inside.count))
]
