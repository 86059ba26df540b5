-- What the pipeline of the in-order machine stands for.
use Rattle.std.specs.Prelude.{◌≡◌}
use Rattle.mono_model.specs.declared.setup.Setup.{Setup}
use Rattle.timing_core.specs.CoreStandsFor.{CoreStandsFor}
use Rattle.inorder_side.specs.Timing.{InorderTiming}
use Rattle.inorder_model.specs.declared.timing.InorderTimingCore.{InorderTimingCore}

pub record InorderStandsFor (s : Setup) (l : InorderTiming) (inorder : InorderTimingCore) : Type 0 where
  pub core : CoreStandsFor s l.timing inorder.core
  pub memory : inorder.memory ≡ l.memory
