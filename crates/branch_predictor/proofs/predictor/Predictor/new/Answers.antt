use Rattle.std.proofs.Common.{◌≡◌, ◌+◌, ◌-◌, ℕ, IsTrue, refl, sym, ◌∙◌, subst, arith}
use Rattle.std.specs.Int.{is_power_of_two}
use Rattle.std.proofs.lemmas.Grind.{common_steps}
use Rattle.std.proofs.lemmas.Option.{gets}
use Rattle.branch_predictor.specs.declared.params.PredParams.{PredParams}
use Rattle.branch_predictor.specs.PredictorStandsFor.{bits_kept}
use Rattle.branch_predictor.proofs.History.{history_number-none}
use Rattle.branch_predictor.proofs.Kept.{counter_kept-untrained, known_at-untrained}
use Rattle.branch_predictor.proofs.Masks.{above, power_above, places_power}
use Rattle.branch_predictor.proofs.predictor.Predictor.new.Goals as goal

pub invariant_of-result : goal.invariant_of-result
invariant_of-result c =
    let Power : ℕ → Type 0 = λ n. IsTrue (is_power_of_two n) in
    let places : Power c.max-places.result = subst Power (sym c.max-places.ensures) (places_power c.args.p.targets c.requires.in_range.targets) in
    record {
      every_counter = grind (arith, above c.args.p.counters c.requires.in_range.counters);
      every_addr = grind (arith, above c.max-places.result places);
      every_way = grind (arith, above c.max-places.result places);
      counters_power = power_above c.args.p.counters c.requires.in_range.counters;
      places_power = power_above c.max-places.result places;
      history_limit = omega arith;
      history_mask_limit = c.history_mask.ensures.limit;
    }

pub returns : goal.returns
returns c =
    let p : PredParams = c.args.p in
    let Power : ℕ → Type 0 = λ n. IsTrue (is_power_of_two n) in
    let places : Power c.max-places.result = subst Power (sym c.max-places.ensures) (places_power p.targets c.requires.in_range.targets) in
    let all : c.max-places.result - 1 + 1 ≡ c.max-places.result = above c.max-places.result places in
    record {
      untrained = record {
        params = refl;
        counter_mask = above p.counters c.requires.in_range.counters;
        place_mask = all ∙ c.max-places.ensures;
        history_mask = c.history_mask.ensures.power;
        counters = λ i within. grind (arith, common_steps, gets, counter_kept-untrained p.kind);
        addrs = λ i within. grind (arith, common_steps, gets, known_at-untrained p i, all);
        ways = λ i within. grind (arith, common_steps, gets, known_at-untrained p i, all);
        history = sym (history_number-none (bits_kept p.kind p.history));
      };
    }
