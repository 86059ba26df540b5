-- What the predictor's vectors and its history stand for. The newest outcomes are all that it keeps of the list, and
-- those only where they select counters.
use Rattle.std.specs.Prelude.{◌≡◌, ℕ, ◌+◌, ◌^◌, ◌<◌, ◌≤◌, ◌==◌, max, true, if◌then◌else◌, Option, Some, None, slice_get}
use Rattle.fsim_base.specs.Number.{wrap_sum}
use Rattle.fsim_base.specs.declared.instruction.Flow.TheVariants.{Plain}
use Rattle.branch_predictor.specs.declared.params.PredKind.{PredKind}
use Rattle.branch_predictor.specs.declared.params.PredKind.TheVariants.{Static, Bimodal, Gshare}
use Rattle.branch_predictor.specs.declared.params.PredParams.{PredParams}
use Rattle.branch_predictor.specs.declared.params.Target.{Target}
use Rattle.branch_predictor.specs.declared.predictor.Predictor.{Predictor}
use Rattle.branch_predictor.specs.declared.predictor.Way.{Way}
use Rattle.branch_predictor.specs.Predictor.{Predicting, followed, history_number}

-- how many of the newest outcomes are kept: as many as select counters
abbrev pub bits_kept : PredKind → ℕ → ℕ
bits_kept Static bits = 0
bits_kept Bimodal bits = 0
bits_kept Gshare bits = bits

-- what is kept of a counter: of a static predictor's nothing is, and 1 predicts no branch taken
abbrev pub counter_kept : PredKind → ℕ → ℕ
counter_kept Static counter = 1
counter_kept Bimodal counter = counter
counter_kept Gshare counter = counter

-- what a place knows: where nothing was placed, that the instruction at 0 goes to the one behind it, as is predicted of
-- any other
abbrev pub known : Option Target → Target
known None = record { addr = 0; flow = Plain; next = 4 }
known (Some target) = target

-- what the place of this index knows; without a target buffer, nothing
abbrev pub known_at : PredParams → Predicting → ℕ → Target
known_at p s i = known (if p.targets == 0 then None else s.targets i)

-- where a target leads, a branch where it is taken
abbrev pub way_of : Target → Way
way_of target = record { flow = target.flow; next = followed target.flow true target.next (wrap_sum target.addr 4) }

-- the predictor has these sizes, and stands for what was learnt so far
pub record PredictorStandsFor (it : Predictor) (p : PredParams) (s : Predicting) : Type 0 where
  pub params : it.params ≡ p
  pub counter_mask : it.counter_mask + 1 ≡ p.counters
  pub place_mask : it.place_mask + 1 ≡ max p.targets 1
  pub history_mask : it.history_mask + 1 ≡ 2 ^ bits_kept p.kind p.history
  pub counters : (i : ℕ) → i < p.counters → slice_get it.counters.items i ≡ Some (counter_kept p.kind (s.counters i))
  pub addrs : (i : ℕ) → i ≤ it.place_mask → slice_get it.addrs.items i ≡ Some (known_at p s i).addr
  pub ways : (i : ℕ) → i ≤ it.place_mask → slice_get it.ways.items i ≡ Some (way_of (known_at p s i))
  pub history : it.history ≡ history_number (bits_kept p.kind p.history) s.outcomes
