use Rattle.std.proofs.Common.{arith}
use Rattle.branch_predictor.specs.Predictor.{trained}
use Rattle.branch_predictor.proofs.predictor.Predictor.train.Goals as goal

pub returns-then-taken : goal.returns-then-taken
unfolding trained
returns-then-taken c = record {
  trained = λ p s h. grind (arith, c.place.ensures p _ (c.count.ensures p s h));
}
