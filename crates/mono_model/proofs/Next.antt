-- The laws of the next step: of the run without a machine file, of a cycle, of a place and of a round to the boundary.
use Rattle.std.proofs.Common.{◌≡◌, ℕ, suc, refl}
use Rattle.mono_model.specs.declared.setup.Setup.{Setup}
use Rattle.mono_model.specs.Alone.{alone, alone_step}
use Rattle.mono_model.specs.Cycle.{cycled, mono}
use Rattle.mono_model.specs.Demand.{step, place}

pub alone-suc : (s : Setup) (n : ℕ) → alone s (suc n) ≡ alone_step s (alone s n)
unfolding alone
alone-suc s n = refl

pub mono-suc : (s : Setup) (c : ℕ) → mono s (suc c) ≡ cycled s (mono s c)
unfolding mono
mono-suc s c = refl

pub place-suc : (s : Setup) (k : ℕ) → place s (suc k) ≡ step s (place s k)
unfolding place
place-suc s k = refl
