use Rattle.std.proofs.Common.{arith, ◌≢◌}
use Rattle.std.proofs.lemmas.Grind.{common_steps}
use Rattle.std.proofs.lemmas.Option.{gets}
use Rattle.branch_predictor.specs.declared.params.PredKind.TheVariants.{Static}
use Rattle.branch_predictor.specs.PredictorStandsFor.{bits_kept}
use Rattle.branch_predictor.proofs.History.{history_number-next}
use Rattle.branch_predictor.proofs.Kept.{counter_kept-all}
use Rattle.branch_predictor.proofs.predictor.Predictor.count.Goals as goal

pub returns : goal.returns
returns c = λ p s h.
    let apart : c.args.self.now.params.kind ≢ Static = grind arith in
    record {
      params = h.params;
      counter_mask = h.counter_mask;
      place_mask = h.place_mask;
      history_mask = h.history_mask;
      counters = λ i within.
          grind (arith, common_steps, gets, h.counters i, h.counters c.counter_index-index.result, c.counter_index-index.ensures.index p s h, counter_kept-all);
      addrs = h.addrs;
      ways = h.ways;
      history =
          grind (arith, history_number-next (bits_kept p.kind p.history) c.args.taken s.outcomes, h.history, h.history_mask);
    }
