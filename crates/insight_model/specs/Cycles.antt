-- The cycles of a run, each with what it is charged to.
use Rattle.std.specs.Prelude.{ℕ, None, List, [], ◌∷◌}
use Rattle.mono_model.specs.declared.params.Params.{Params}
use Rattle.mono_model.specs.declared.setup.Setup.{Setup}
use Rattle.insight_model.specs.declared.pipeline.Pipeline.{Pipeline}
use Rattle.insight_model.specs.Cause.{Charge}
use Rattle.insight_model.specs.OfState.{sights}
use Rattle.insight_model.specs.Facts.{Facts, facts_between}
use Rattle.insight_model.specs.Accesses.{misses_after}
use Rattle.insight_model.specs.Origin.{origins_after, refill_after}
use Rattle.insight_model.specs.Hole.{holes_start, holes_after}
use Rattle.insight_model.specs.Head.{Known, head}

-- before the first cycle of a run from this entry
unfoldable pub known_start : ℕ → Known
known_start entry = record { misses = []; origins = []; refill = None; holes = holes_start entry }

unfoldable pub known_after : Pipeline → Params → Facts → Known → Known
known_after pipeline p f known = record {
  misses = misses_after pipeline p f known.misses;
  origins = origins_after p f known.refill known.origins;
  refill = refill_after f known.refill;
  holes = holes_after f known.misses known.holes;
}

pub record Cycle : Type 0 where
  pub facts : Facts
  pub head : Charge

unfoldable pub cycles_from : Pipeline → Params → Known → List Facts → List Cycle
cycles_from pipeline p known [] = []
cycles_from pipeline p known (f ∷ rest) =
    record { facts = f; head = head pipeline p f known } ∷ cycles_from pipeline p (known_after pipeline p f known) rest

-- the cycles of a run, at most so many
unfoldable pub cycles : Pipeline → Setup → ℕ → List Cycle
cycles pipeline s most = cycles_from pipeline s.params (known_start s.image.entry) (facts_between (sights pipeline s most))
