use Rattle.std.proofs.Common.{◌≡◌, ◌≢◌, ◌/◌, ◌%◌, refl, arith}
use Rattle.branch_predictor.specs.declared.params.Target.{Target}
use Rattle.branch_predictor.specs.PredictorStandsFor.{way_of}
use Rattle.branch_predictor.proofs.Kept.{followed-taken, kept-placed}
use Rattle.branch_predictor.proofs.predictor.Predictor.place.Goals as goal

pub returns-then-self-ne0 : goal.returns-then-self-ne0
returns-then-self-ne0 c = λ p s h.
    let t : Target = c.args.target in
    let some : p.targets ≢ 0 = grind (arith, h.params) in
    let place : c.place_in-index.result ≡ t.addr / 4 % p.targets = grind (arith, h.place_mask) in
    record {
      params = h.params;
      counter_mask = h.counter_mask;
      place_mask = h.place_mask;
      history_mask = h.history_mask;
      counters = grind (arith, h.counters);
      addrs = λ i within. kept-placed (λ t. t.addr) p t s _ _ i _ some place (grind arith) refl (h.addrs i within);
      ways = λ i within. kept-placed way_of p t s _ _ i _ some place (grind arith) (grind (arith, followed-taken)) (h.ways i within);
      history = grind (arith, h.history);
    }
